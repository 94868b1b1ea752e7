-- An expression with others in the place of its columns has, on a row, the value that it has on a row of what those give.
use Rattle.std.specs.Prelude.{◌≡◌, ℕ, List, [], ◌∷◌, ◌++◌, refl}
use Rattle.std.proofs.Common.{ap, ◌∙◌}
use Rattle.std.specs.List.{AllByRecursion}
use Rattle.pig_value.specs.Casts.{cast_of}
use Rattle.pig_value.specs.Functions.{apply_tree}
use Rattle.pig_value.specs.Trees.{Tree, at}
use Rattle.pig_typed.specs.Evaluation.{ev, ev_args, ev_links}
use Rattle.pig_typed.specs.Operators.{chain_tree, chosen, compare_tree, look_tree, minus_tree, not_tree, null_test, project_tree, truth_of}
use Rattle.pig_typed.specs.Typed.{Typed, TypedLinks, TypedArgs, x_null, x_bool, x_int, x_long, x_chars, x_field, x_local, x_chain, x_compare, x_is_null, x_not, x_minus, x_choose, x_cast, x_project, x_look, x_call, no_links, more_links, no_args, more_args}
use Rattle.pig_plan.specs.Moves.{arg_fields, fields_in, link_fields, put, put_args, put_links}

-- ---- lists

module _ {X : Type 0} (P : X → Type 0) where
  front_each : (xs ys : List X) → AllByRecursion P (xs ++ ys) → AllByRecursion P xs
  front_each [] ys h = tt
  front_each (x ∷ xs) ys h = (h.0, front_each xs ys h.1)

  back_each : (xs ys : List X) → AllByRecursion P (xs ++ ys) → AllByRecursion P ys
  back_each [] ys h = h
  back_each (x ∷ xs) ys h = back_each xs ys h.1

module _ (f : ℕ → Typed) (row made locals : List Tree) where
  abbrev pub Gives : List ℕ → Type 0
  Gives fields = AllByRecursion (λ n. ev (f n) row locals ≡ at n made) fields

  front : (xs ys : List ℕ) → Gives (xs ++ ys) → Gives xs
  front xs ys h = front_each (λ n. ev (f n) row locals ≡ at n made) xs ys h

  back : (xs ys : List ℕ) → Gives (xs ++ ys) → Gives ys
  back xs ys h = back_each (λ n. ev (f n) row locals ≡ at n made) xs ys h

  mutual
    pub puts : (e : Typed) → Gives (fields_in e) → ev (put f e) row locals ≡ ev e made locals
    puts (x_field n) h = h.0
    puts (x_chain first links) h =
        puts_links links (ev (put f first) row locals) (back (fields_in first) (link_fields links) h)
        ∙ ap (λ v. ev_links v links made locals) (puts first (front (fields_in first) (link_fields links) h))
    puts (x_compare r a b) h =
        ap (λ v. compare_tree r v (ev (put f b) row locals)) (puts a (front (fields_in a) (fields_in b) h))
        ∙ ap (λ v. compare_tree r (ev a made locals) v) (puts b (back (fields_in a) (fields_in b) h))
    puts (x_is_null a negated) h = ap (λ v. null_test v negated) (puts a h)
    puts (x_not a) h = ap not_tree (puts a h)
    puts (x_minus a) h = ap minus_tree (puts a h)
    puts (x_choose test a b) h =
        ap (λ v. chosen (truth_of v) (ev (put f a) row locals) (ev (put f b) row locals)) (puts test (front (fields_in test) (fields_in a ++ fields_in b) h))
        ∙ ap (λ v. chosen (truth_of (ev test made locals)) v (ev (put f b) row locals)) (puts a (front (fields_in a) (fields_in b) (back (fields_in test) (fields_in a ++ fields_in b) h)))
        ∙ ap (λ v. chosen (truth_of (ev test made locals)) (ev a made locals) v) (puts b (back (fields_in a) (fields_in b) (back (fields_in test) (fields_in a ++ fields_in b) h)))
    puts (x_cast to a) h = ap (cast_of to) (puts a h)
    puts (x_project a ns single) h = ap (project_tree ns single) (puts a h)
    puts (x_look a key) h = ap (look_tree key) (puts a h)
    puts (x_call function args) h = ap (apply_tree function) (puts_args args h)
    puts x_null h = refl
    puts (x_bool b) h = refl
    puts (x_int z) h = refl
    puts (x_long z) h = refl
    puts (x_chars text) h = refl
    puts (x_local n) h = refl

    puts_links : (links : TypedLinks) (so_far : Tree) → Gives (link_fields links) → ev_links so_far (put_links f links) row locals ≡ ev_links so_far links made locals
    puts_links no_links so_far h = refl
    puts_links (more_links operator a links) so_far h =
        puts_links links (chain_tree operator so_far (ev (put f a) row locals)) (back (fields_in a) (link_fields links) h)
        ∙ ap (λ v. ev_links (chain_tree operator so_far v) links made locals) (puts a (front (fields_in a) (link_fields links) h))

    puts_args : (args : TypedArgs) → Gives (arg_fields args) → ev_args (put_args f args) row locals ≡ ev_args args made locals
    puts_args no_args h = refl
    puts_args (more_args e args) h =
        ap (λ v. v ∷ ev_args (put_args f args) row locals) (puts e (front (fields_in e) (arg_fields args) h))
        ∙ ap (λ vs. ev e made locals ∷ vs) (puts_args args (back (fields_in e) (arg_fields args) h))
