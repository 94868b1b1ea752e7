-- Lists of STOREs by place, and their directories.
use Rattle.std.proofs.Common.{◌≡◌, ◌≢◌, ◌<◌, ◌+◌, ◌++◌, ◌&&◌, ◌||◌, ◌∷◌, ℕ, Bool, true, false, not, List, [], length, map, take, get_or, Option, Some, None, refl, sym, ◌∙◌, ap, subst, add-one}
use Rattle.std.specs.List.{AllByRecursion}
use Rattle.std.specs.Option.{is_some}
use Rattle.std.proofs.Math.Seq.{take-suc}
use Rattle.std.proofs.lemmas.List.{get_or-map}
use Rattle.std.specs.Str.{bytes_eq}
use Rattle.pig_outside.proofs.ShelfLaws.{bytes_eq-same}
use Rattle.pig_outside.specs.Shelf.{CanCreate, Shelf, has_dir, state_of}
use Rattle.pig_outside.specs.declared.contents.DirState.{DirState}
use Rattle.pig_plan.specs.Plans.{Plan}
use Rattle.pig_commit.specs.Committed.{AreAbsent, AreApart}
use Rattle.pig_commit.specs.declared.parts.StorePart.{StorePart}
use Rattle.pig_reach.specs.declared.storing.Store.{Store}
use Rattle.pig_rewrites.specs.Alike.{AllAlike, are_apart, is_stored_in}
use Rattle.pig_run.specs.Looking.{IsAbsentIn}

pub taken : {X : Type 0} (xs : List X) (place : ℕ) (x d : X) → place < length xs → x ≡ get_or xs place d → take (place + 1) xs ≡ take place xs ++ x ∷ []
taken xs place x d within at = ap (λ n. take n xs) (add-one place) ∙ take-suc xs place d within ∙ ap (λ y. take place xs ++ y ∷ []) (sym at)

pub dir_at : (stores : List Store) (place : ℕ) (store d : Store) → place < length stores → store ≡ get_or stores place d → store.dir ≡ get_or (map (λ store. store.dir) stores) place []
dir_at stores place store d within at = ap (λ store. store.dir) at ∙ sym (get_or-map (λ store. store.dir) stores place d [] within)

-- ---- the directories of parts are those of STOREs

both_true : (a b : Bool) → (a && b) ≡ true → (a ≡ true) × (b ≡ true)
both_true true b h = (refl, h)
both_true false b h = absurd (cc)

not_true : (a : Bool) → not a ≡ true → a ≡ false
not_true true h = absurd (cc)
not_true false h = refl

nothing_there : (o : Option DirState) → is_some o ≡ false → o ≡ None
nothing_there None h = refl
nothing_there (Some state) h = absurd (cc)

head_same : {x y : List ℕ} {xs ys : List (List ℕ)} → x ∷ xs ≡ y ∷ ys → x ≡ y
head_same e = cc

tail_same : {x y : List ℕ} {xs ys : List (List ℕ)} → x ∷ xs ≡ y ∷ ys → xs ≡ ys
tail_same e = cc

-- none of them is on the shelf
pub are_absent : (s : Shelf) (stores : List Store) (parts : List StorePart) → map (λ part. part.dir) parts ≡ map (λ store. store.dir) stores
    → AllByRecursion (IsAbsentIn s) stores → AreAbsent parts s
are_absent s [] [] e h = tt
are_absent s [] (part ∷ parts) e h = absurd (let wrong : ◌≡◌ {A = List (List ℕ)} (part.dir ∷ map (λ part. part.dir) parts) [] = e in cc)
are_absent s (store ∷ stores) [] e h = absurd (let wrong : ◌≡◌ {A = List (List ℕ)} [] (store.dir ∷ map (λ store. store.dir) stores) = e in cc)
are_absent s (store ∷ stores) (part ∷ parts) e h = (
  subst (λ dir. CanCreate dir s) (sym (head_same e)) (nothing_there (state_of store.dir s.dirs) h.0),
  are_absent s stores parts (tail_same e) h.1,
)

no_other : (dir : List ℕ) (stores : List Store) (parts : List StorePart) → map (λ part. part.dir) parts ≡ map (λ store. store.dir) stores
    → is_stored_in dir stores ≡ false → AllByRecursion (λ part. part.dir ≢ dir) parts
no_other dir [] [] e h = tt
no_other dir [] (part ∷ parts) e h = absurd (let wrong : ◌≡◌ {A = List (List ℕ)} (part.dir ∷ map (λ part. part.dir) parts) [] = e in cc)
no_other dir (store ∷ stores) [] e h = tt
no_other dir (store ∷ stores) (part ∷ parts) e h = by (no_other dir stores parts (tail_same e)) (bytes_eq store.dir dir) refl h
  where
    by : (is_stored_in dir stores ≡ false → AllByRecursion (λ part. part.dir ≢ dir) parts) → (b : Bool) → bytes_eq store.dir dir ≡ b → (b || is_stored_in dir stores) ≡ false → AllByRecursion (λ part. part.dir ≢ dir) (part ∷ parts)
    by more true same wrong = absurd (cc)
    by more false other rest = (
      λ is. (let equal : bytes_eq store.dir dir ≡ true = ap (λ d. bytes_eq d dir) (sym (head_same e) ∙ is) ∙ bytes_eq-same dir in let wrong = sym other ∙ equal in cc),
      more rest,
    )

-- no two are the same
pub are_apart_all : (stores : List Store) (parts : List StorePart) → map (λ part. part.dir) parts ≡ map (λ store. store.dir) stores → are_apart stores ≡ true → AreApart parts
are_apart_all [] [] e h = tt
are_apart_all [] (part ∷ parts) e h = absurd (let wrong : ◌≡◌ {A = List (List ℕ)} (part.dir ∷ map (λ part. part.dir) parts) [] = e in cc)
are_apart_all (store ∷ stores) [] e h = tt
are_apart_all (store ∷ stores) (part ∷ parts) e h =
    let both = both_true (not (is_stored_in store.dir stores)) (are_apart stores) h in (
      subst (λ dir. AllByRecursion (λ other. other.dir ≢ dir) parts) (sym (head_same e))
          (no_other store.dir stores parts (tail_same e) (not_true (is_stored_in store.dir stores) both.0)),
      are_apart_all stores parts (tail_same e) both.1,
    )

-- ---- the STOREs of a plan and of the one that it was rewritten to

pub same_dirs : (p q : Plan) (stores others : List Store) → AllAlike p q stores others → map (λ store. store.dir) others ≡ map (λ store. store.dir) stores
same_dirs p q [] [] h = refl
same_dirs p q [] (other ∷ others) h = absurd h
same_dirs p q (store ∷ stores) [] h = absurd h
same_dirs p q (store ∷ stores) (other ∷ others) h = λ i. h.0.dir i ∷ same_dirs p q stores others h.1 i

pub same_statements : (p q : Plan) (stores others : List Store) → AllAlike p q stores others → map (λ store. store.statement) others ≡ map (λ store. store.statement) stores
same_statements p q [] [] h = refl
same_statements p q [] (other ∷ others) h = absurd h
same_statements p q (store ∷ stores) [] h = absurd h
same_statements p q (store ∷ stores) (other ∷ others) h = λ i. h.0.statement i ∷ same_statements p q stores others h.1 i

no_dirs : {x : List ℕ} {xs : List (List ℕ)} {B : Type 0} → x ∷ xs ≡ [] → B
no_dirs e = absurd (cc)

-- what is said of directories alone is said of STOREs with the same ones
stored_same : (dir : List ℕ) (stores others : List Store) → map (λ store. store.dir) others ≡ map (λ store. store.dir) stores → is_stored_in dir others ≡ is_stored_in dir stores
stored_same dir [] [] e = refl
stored_same dir [] (other ∷ others) e = no_dirs e
stored_same dir (store ∷ stores) [] e = no_dirs (sym e)
stored_same dir (store ∷ stores) (other ∷ others) e = λ i. bytes_eq (head_same e i) dir || stored_same dir stores others (tail_same e) i

pub apart_same : (stores others : List Store) → map (λ store. store.dir) others ≡ map (λ store. store.dir) stores → are_apart others ≡ are_apart stores
apart_same [] [] e = refl
apart_same [] (other ∷ others) e = no_dirs e
apart_same (store ∷ stores) [] e = no_dirs (sym e)
apart_same (store ∷ stores) (other ∷ others) e =
    ap (λ dir. not (is_stored_in dir others) && are_apart others) (head_same e)
    ∙ (λ i. not (stored_same store.dir stores others (tail_same e) i) && apart_same stores others (tail_same e) i)

pub absent_same : (s : Shelf) (stores others : List Store) → map (λ store. store.dir) others ≡ map (λ store. store.dir) stores → AllByRecursion (IsAbsentIn s) stores → AllByRecursion (IsAbsentIn s) others
absent_same s [] [] e h = tt
absent_same s [] (other ∷ others) e h = no_dirs e
absent_same s (store ∷ stores) [] e h = no_dirs (sym e)
absent_same s (store ∷ stores) (other ∷ others) e h = (ap (λ dir. has_dir dir s) (head_same e) ∙ h.0, absent_same s stores others (tail_same e) h.1)
