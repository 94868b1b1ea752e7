use Rattle.std.proofs.Common.{◌∙◌, ◌∷◌, ◌++◌, [], subst}
use Rattle.std.specs.Prelude.{OnOk}
use Rattle.pig_value.specs.Trees.{fields_of, row_tree, v_tuple}
use Rattle.pig_runs.specs.Alone.{SameKeys, keys_in}
use Rattle.pig_runs.proofs.Once.{written}
use Rattle.pig_runs.proofs.keys.KeysBuilder.add_row.Goals as goal

pub add_code-requires-clause-key : goal.add_code-requires-clause-key
add_code-requires-clause-key c =
    ∣ ((v_tuple (fields_of (row_tree c.args.row.now))), written (v_tuple (fields_of (row_tree c.args.row.now))) c.clear.new.self.items c.encode_row.new.out.items c.as_slice.result.now c.requires c.clear.ensures.items c.in_ok-encode_row.ensures.ok c.as_slice.ensures.value) ∣₁

pub invariant_of-self-2 : goal.invariant_of-self-2
invariant_of-self-2 c = c.add_code.ensures.dirs ∙ c.self.invariant

pub returns-clause-ok : goal.returns-clause-ok
returns-clause-ok c =
    subst (λ keys. OnOk c.add_code.result (SameKeys (keys ++ v_tuple (fields_of (row_tree c.args.row.now)) ∷ []) (keys_in c.add_code.new.built.entries))) c.self.view_is
    (c.add_code.ensures.ok (v_tuple (fields_of (row_tree c.args.row.now)))
    (written (v_tuple (fields_of (row_tree c.args.row.now))) c.clear.new.self.items c.encode_row.new.out.items c.as_slice.result.now c.requires c.clear.ensures.items c.in_ok-encode_row.ensures.ok c.as_slice.ensures.value))
