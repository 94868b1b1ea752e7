use Rattle.std.proofs.Common.{◌∙◌, Some, None, ap, arith, rules, sym}
use Rattle.std.proofs.lemmas.Bool.{ne_eqb}
use Rattle.std.proofs.lemmas.List.Elements.{All-from_get_or}
use Rattle.std.proofs.lemmas.Str.Pattern.{split_once_first, split_parts}
use Rattle.std.specs.Prelude.{◌≡◌, ◌==◌, false}
use Rattle.pig_check.specs.Paths.{is_component, slash}
use Rattle.pig_check.proofs.Kept.{goes_behind, last_component, stops}
use Rattle.pig_check.proofs.paths.all_components.Goals as goal

pub returns-then-not-is_component : goal.returns-then-not-is_component
returns-then-not-is_component c =
    let m = split_once_first slash c.loop-part.left.now (Some (c.in-Some.part, c.in-Some.rest)) c.in-Some.ensures.cases (omega (arith)) in
    stops c.loop-part.left.now c.in-Some.part.now c.in-Some.rest.now c.args.path.now m.0 m.1 m.2
    (c.if-not-is_component.ensures ∙ ap is_component c.as_bytes.ensures.value) c.loop-part.invariant.1

pub loop-part-preserved : goal.loop-part-preserved
loop-part-preserved c =
    let m = split_once_first slash c.loop-part.left.now (Some (c.in-Some.part, c.in-Some.rest)) c.in-Some.ensures.cases (omega (arith)) in (
      search rules,
      goes_behind c.loop-part.left.now c.in-Some.part.now c.in-Some.rest.now c.args.path.now m.0 m.1 m.2
          (c.if-not-is_component.ensures ∙ ap is_component c.as_bytes.ensures.value) c.loop-part.invariant.1,
    )

pub returns : goal.returns
returns c =
    let none = All-from_get_or (λ b. (b == slash) ≡ false) c.loop-part.left.now 0 (λ k l. ne_eqb _ slash (split_parts slash c.loop-part.left.now None c.in_default.ensures.cases (omega (arith)) k l)) in
    c.is_component-2.ensures ∙ ap is_component c.as_bytes-2.ensures.value ∙ sym (last_component c.loop-part.left.now none) ∙ c.loop-part.invariant.1
