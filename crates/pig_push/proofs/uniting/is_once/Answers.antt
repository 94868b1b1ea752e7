use Rattle.std.proofs.Common.{rules, ◌≡◌, ◌==◌, ◌∙◌, subst, sym, length, true}
use Rattle.std.specs.Prelude.{Some, slice_get, refl}
use Rattle.std.specs.List.{list_any}
use Rattle.std.proofs.lemmas.Option.{slice_get_read}
use Rattle.pig_value.proofs.list_laws.Listing.{some_same}
use Rattle.pig_moves.specs.Pushed.{place_in}
use Rattle.pig_push.proofs.uniting.is_once.Goals as goal

pub returns : goal.returns
returns c = λ yes m at.
    let found : slice_get c.args.each.now c.args.index ≡ Some c.in-Some.n.now =
    slice_get_read c.args.each.now (length c.args.each.now) c.args.index c.in-Some.n.now refl c.in-Some.ensures.lookup.3.0 c.in-Some.ensures.lookup.1 in
    let place : place_in c.args.each.now c.in-Some.n.now ≡ c.args.index = search rules in
    let held : c.holds.result ≡ list_any (λ l. l == c.in-Some.n.now) c.args.inputs.now = search rules in
    subst (λ n. (place_in c.args.each.now n ≡ c.args.index) × (list_any (λ l. l == n) c.args.inputs.now ≡ true)) (some_same c.in-Some.n.now m (sym found ∙ at))
    (place, sym held ∙ yes)
