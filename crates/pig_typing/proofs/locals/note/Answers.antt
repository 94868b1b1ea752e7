use Rattle.std.proofs.Common.{rules, ◌≡◌, ◌∙◌, ◌++◌, ℕ, List, [], ◌∷◌, Some, subst, sym, ap, string_bytes, if◌then◌else◌, length}
use Rattle.std.specs.Str.{bytes_eq}
use Rattle.indexmap.specs.IndexMap.{get_by_text}
use Rattle.pig_typing.specs.Latest.{IsIndex}
use Rattle.pig_typing.proofs.Latest.{index_behind}
use Rattle.pig_typing.proofs.locals.note.Goals as goal

pub returns-in-Ok-clause-index : goal.returns-in-Ok-clause-index
returns-in-Ok-clause-index c h =
    let longer : c.push.new.self ≡ c.args.given.now ++ c.args.local ∷ [] = search rules in
    let key : string_bytes c.in_ok-key.key ≡ c.args.local.alias = search rules in
    let count : c.len-number.result ≡ length c.args.given.now = search rules in
    let placed : (name : List ℕ) → get_by_text c.set_number.new.latest name
    ≡ (if bytes_eq name (string_bytes c.in_ok-key.key) then Some c.len-number.result else get_by_text c.args.latest.now name) = search rules in
    let at : (name : List ℕ) → get_by_text c.set_number.new.latest name
    ≡ (if bytes_eq name c.args.local.alias then Some (length c.args.given.now) else get_by_text c.args.latest.now name) =
    λ name. placed name ∙ ap (λ k. if bytes_eq name k then Some c.len-number.result else get_by_text c.args.latest.now name) key
    ∙ ap (λ n. if bytes_eq name c.args.local.alias then Some n else get_by_text c.args.latest.now name) count in
    subst (λ given. IsIndex given (λ name. get_by_text c.set_number.new.latest name)) (sym longer)
    (index_behind c.args.given.now c.args.local (λ name. get_by_text c.args.latest.now name) (λ name. get_by_text c.set_number.new.latest name) h at)
