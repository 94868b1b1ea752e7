use Rattle.std.proofs.Common.{rules, ◌≡◌, ◌++◌, ◌-◌, min, length, take, ap, sym, subst, ◌∙◌, arith}
use Rattle.std.proofs.lemmas.List.{length-map, take-map, take_min}
use Rattle.pig_value.specs.Trees.{row_tree, rows_tree}
use Rattle.pig_value.specs.Valid.{AreRows}
use Rattle.pig_value.proofs.ValidLaws.{valid_rows-take}
use Rattle.pig_map.proofs.first.FirstPackedSink.take.Goals as goal

pub take-requires : goal.take-requires
take-requires c =
    subst AreRows (take-map row_tree c.min-count.result c.args.rows.now)
    (valid_rows-take c.min-count.result (rows_tree c.args.rows.now) c.requires)

pub returns : goal.returns
returns c =
    let size : length (rows_tree c.args.rows.now) ≡ length c.args.rows.now = length-map c.args.rows.now row_tree in
    let count : c.min-count.result ≡ min c.args.self.now.left (length c.args.rows.now) = search rules in
    let took : c.take.new.self ≡ c.args.self.now.rows ++ rows_tree (take c.min-count.result c.args.rows.now) = search rules in
    let left : c.saturating_sub-self.result ≡ c.args.self.now.left - c.min-count.result = search rules in
    record {
      first =
          took
          ∙ ap (λ rows. c.args.self.now.rows ++ rows)
          (sym (take-map row_tree c.min-count.result c.args.rows.now)
          ∙ ap (λ n. take n (rows_tree c.args.rows.now)) (count ∙ ap (min c.args.self.now.left) (sym size))
          ∙ take_min c.args.self.now.left (rows_tree c.args.rows.now));
      less = omega (arith, left, count, size);
    }
