use Rattle.std.proofs.Common.{◌≡◌, ◌∙◌, ℕ, List, Some, string_bytes, if◌then◌else◌, true, false, inl, inr}
use Rattle.std.specs.Prelude.{Option, ◌⊎◌, ◌≢◌}
use Rattle.std.specs.Str.{bytes_eq}
use Rattle.std.proofs.lemmas.Map.Text.{hash_map_text_after}
use Rattle.pig_typing.proofs.locals.set_number.Goals as goal

same_or_other : {V : Type 0} (bs cs : List ℕ) (v : V) (new old at was : Option V) → at ≡ Some v
    → ((bytes_eq cs bs ≡ true) × (bytes_eq bs cs ≡ true) × (cs ≡ bs) × (new ≡ at) × (old ≡ was))
    ⊎ ((bytes_eq cs bs ≡ false) × (bytes_eq bs cs ≡ false) × (cs ≢ bs) × (new ≡ old))
    → new ≡ (if bytes_eq cs bs then Some v else old)
same_or_other bs cs v new old at was e (inl h) = rw (h.0) (h.3 ∙ e)
same_or_other bs cs v new old at was e (inr h) = rw (h.0) h.3

pub returns-clause-ok : goal.returns-clause-ok
returns-clause-ok c name =
    same_or_other (string_bytes c.args.key) name c.args.number _ _ _ _ c.in_ok-insert.ensures.updates.1
    (hash_map_text_after c.args.key name c.args.latest.now.entries c.insert.new.self.entries c.in_ok-insert.ensures.updates.3).2
