use Rattle.std.proofs.Common.{◌∙◌, ◌++◌, sym, ap, drop}
use Rattle.std.proofs.lemmas.List.{append-nil}
use Rattle.pig_value.specs.Trees.{row_tree}
use Rattle.pig_keycode.proofs.Writing.{none_placed}
use Rattle.pig_keycode.proofs.encoding.write_places.Goals as goal

pub returns-in-empty : goal.returns-in-empty
returns-in-empty c =
    let out = c.loop-dir.out.items in
    record {
      ok = sym (append-nil out) ∙ (ap (λ l. out ++ l) (sym (none_placed (drop c.loop-dir.dir-index c.args.dirs.now) c.loop-dir.left.now (row_tree c.args.row.now) c.in-empty.len_below)) ∙ c.loop-dir.invariant.0);
      grows = c.loop-dir.invariant.1;
    }
