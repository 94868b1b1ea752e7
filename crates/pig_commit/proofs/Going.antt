-- How a commit goes on: calls that were made in turn, and directories that were stored so far.
use Rattle.std.specs.Prelude.{◌≡◌, ◌≢◌, ◌<◌, ◌+◌, ◌++◌, ℕ, List, [], ◌∷◌, length, take, drop, get_or, Option, Some, None, Result, Ok, Err, IfErr, IfOk, refl}
use Rattle.std.proofs.Common.{ap, sym, ◌∙◌, subst, arith, add-one}
use Rattle.std.proofs.Math.Seq.{take-suc}
use Rattle.std.proofs.lemmas.List.{append_assoc, append-nil, drop_more, length-append, length-take, map-append, take-append-drop, take_all}
use Rattle.std.proofs.lemmas.List.Concat.{flat_map-append}
use Rattle.std.specs.List.{AllByRecursion, flat_map}
use Rattle.std.specs.Option.{ForSome, option_map}
use Rattle.pig_outside.proofs.ShelfLaws.{can_put, left_unmarked, mark_set, part_added, set_dir-same, state_of-set_dir, state_of-set_dir_other, with_dir_again}
use Rattle.pig_outside.specs.Calls.{DepotCall}
use Rattle.pig_outside.specs.Shelf.{CanCreate, CanPut, IsOpen, LeftUnmarked, Shelf, open_state, whole_state, with_dir, with_mark, with_new, with_part}
use Rattle.pig_outside.specs.declared.failing.Method.TheVariants as method
use Rattle.pig_commit.specs.Calls.{Asked, call, calls_of, put_calls, store_calls}
use Rattle.pig_commit.specs.Committed.{AreAbsent, AreApart, IsFaultAt, IsStoppedAt, LeftOpen, with_stored}
use Rattle.pig_commit.specs.declared.parts.CommitFault.{CommitFault}
use Rattle.pig_commit.specs.declared.parts.StorePart.{StorePart}

-- ---- calls

both_asked : (first more : List DepotCall) (old : Option (List DepotCall))
    → option_map (λ xs. xs ++ more) (option_map (λ xs. xs ++ first) old) ≡ option_map (λ xs. xs ++ (first ++ more)) old
both_asked first more None = refl
both_asked first more (Some xs) = ap (λ ys. Some ys) (append_assoc xs first more)

pub asked_then : (first more : List DepotCall) (old mid new : Option (List DepotCall)) → Asked first old mid → Asked more mid new → Asked (first ++ more) old new
asked_then first more old mid new before after = after ∙ ap (option_map (λ xs. xs ++ more)) before ∙ both_asked first more old

pub none_asked : (old : Option (List DepotCall)) → Asked [] old old
none_asked None = refl
none_asked (Some xs) = ap (λ ys. Some ys) (sym (append-nil xs))

-- a call was made, and others before it or behind it
pub one_made : (before : List DepotCall) (one : DepotCall) (behind : List DepotCall) → 0 < length (before ++ one ∷ behind)
one_made [] one behind = omega (arith)
one_made (first ∷ before) one behind = omega (arith)

pub some_made : (before made : List DepotCall) → 0 < length made → 0 < length (before ++ made)
some_made before made h = let l = length-append before made in omega (arith, l, h)

-- that is said where it ended in between
pub where_stopped : {T E P : Type 0} (result : Result T E) → P → IfErr result (λ _. P)
where_stopped (Ok x) p = tt
where_stopped (Err e) p = p

-- ---- directories

stored_behind : (before : List StorePart) (store : StorePart) (shelf : Shelf)
    → with_stored (before ++ store ∷ []) shelf ≡ with_dir store.dir (whole_state store.parts) (with_stored before shelf)
stored_behind [] store shelf = refl
stored_behind (first ∷ before) store shelf = stored_behind before store (with_dir first.dir (whole_state first.parts) shelf)

one_stored : (before : List StorePart) (store : StorePart) (old : Option Shelf)
    → option_map (with_dir store.dir (whole_state store.parts)) (option_map (with_stored before) old) ≡ option_map (with_stored (before ++ store ∷ [])) old
one_stored before store None = refl
one_stored before store (Some shelf) = ap (λ s. Some s) (sym (stored_behind before store shelf))

-- those before what is left are stored, and what is left may be made
pub record IsSoFar (stores left : List StorePart) (old now : Option Shelf) (calls_old calls_now : Option (List DepotCall)) : Type 0 where
  pub before : List StorePart
  pub are : stores ≡ before ++ left
  pub shelf : now ≡ option_map (with_stored before) old
  pub asked : Asked (flat_map store_calls before) calls_old calls_now
  pub absent : ForSome now (AreAbsent left)
  pub apart : AreApart left

absent_still : (shelf : Shelf) (store : StorePart) (stores : List StorePart) → AllByRecursion (λ other. other.dir ≢ store.dir) stores → AreAbsent stores shelf
    → AreAbsent stores (with_dir store.dir (whole_state store.parts) shelf)
absent_still shelf store [] apart absent = tt
absent_still shelf store (other ∷ stores) apart absent =
    (state_of-set_dir_other other.dir store.dir (whole_state store.parts) shelf.dirs apart.0 ∙ absent.0, absent_still shelf store stores apart.1 absent.1)

absent_after : (old now : Option Shelf) (store : StorePart) (stores : List StorePart) → AllByRecursion (λ other. other.dir ≢ store.dir) stores
    → ForSome old (AreAbsent (store ∷ stores)) → now ≡ option_map (with_dir store.dir (whole_state store.parts)) old → ForSome now (AreAbsent stores)
absent_after old now store stores apart absent is = subst (λ o. ForSome o (AreAbsent stores)) (sym is) (by_shelf old absent)
  where
    by_shelf : (o : Option Shelf) → ForSome o (AreAbsent (store ∷ stores)) → ForSome (option_map (with_dir store.dir (whole_state store.parts)) o) (AreAbsent stores)
    by_shelf None h = λ s e. absurd (let f : ◌≡◌ {A = Option Shelf} None (Some s) = e in cc)
    by_shelf (Some shelf) h = λ s e. let f : Some (with_dir store.dir (whole_state store.parts) shelf) ≡ Some s = e in
        subst (AreAbsent stores) (some_is f) (absent_still shelf store stores apart (h shelf refl).1)
      where
        some_is : {x y : Shelf} → Some x ≡ Some y → x ≡ y
        some_is h = cc

pub this_one : (stores : List StorePart) (place : ℕ) (store d : StorePart) → place < length stores → store ≡ get_or stores place d → drop place stores ≡ store ∷ drop (place + 1) stores
this_one stores place store d within at = drop_more stores place d within ∙ ap (λ x. x ∷ drop (place + 1) stores) (sym at)

module _ (stores : List StorePart) (place : ℕ) (store d : StorePart) (old now new : Option Shelf) (calls_old calls_now calls_new : Option (List DepotCall))
    (within : place < length stores) (at : store ≡ get_or stores place d) (so_far : IsSoFar stores (drop place stores) old now calls_old calls_now) where
  abbrev rest : List StorePart
  rest = drop (place + 1) stores

  is : drop place stores ≡ store ∷ rest
  is = this_one stores place store d within at

  here : IsSoFar stores (store ∷ rest) old now calls_old calls_now
  here = subst (λ l. IsSoFar stores l old now calls_old calls_now) is so_far

  pub may_create : (s : Shelf) → now ≡ Some s → CanCreate store.dir s
  may_create s told = (here.absent s told).0

  pub one_more : new ≡ option_map (with_dir store.dir (whole_state store.parts)) now → Asked (store_calls store) calls_now calls_new
      → IsSoFar stores rest old new calls_old calls_new
  one_more shelf asked = record {
    before = here.before ++ store ∷ [];
    are = here.are ∙ sym (append_assoc here.before (store ∷ []) rest);
    shelf = shelf ∙ ap (option_map (with_dir store.dir (whole_state store.parts))) here.shelf ∙ one_stored here.before store old;
    asked = subst (λ calls. Asked calls calls_old calls_new)
        (sym (flat_map-append store_calls here.before (store ∷ []) ∙ ap (λ calls. flat_map store_calls here.before ++ calls) (append-nil (store_calls store))))
        (asked_then (flat_map store_calls here.before) (store_calls store) calls_old calls_now calls_new here.asked asked);
    absent = absent_after now new store rest here.apart.0 here.absent shelf;
    apart = here.apart.1;
  }

  pub stopped_here : (found : CommitFault) → IsFaultAt store.statement found → LeftOpen store.dir now new → IsStoppedAt stores found old new
  stopped_here found named opened = record {
    before = here.before;
    store = store;
    behind = rest;
    are = here.are;
    opened = subst (λ o. LeftOpen store.dir o new) here.shelf opened;
    named = named;
  }

  -- what was asked where it ended at this one, and what was not
  pub asked_until : (made behind : List DepotCall) → Asked made calls_now calls_new → made ++ behind ≡ store_calls store → 0 < length made
      → (first : List DepotCall) × (left : List DepotCall) × Asked first calls_old calls_new × (first ++ left ≡ flat_map store_calls stores) × (0 < length first)
  asked_until made behind asked first some = (
    flat_map store_calls here.before ++ made,
    behind ++ flat_map store_calls rest,
    asked_then (flat_map store_calls here.before) made calls_old calls_now calls_new here.asked asked,
    append_assoc (flat_map store_calls here.before) made (behind ++ flat_map store_calls rest)
        ∙ ap (λ calls. flat_map store_calls here.before ++ calls) (sym (append_assoc made behind (flat_map store_calls rest)) ∙ ap (λ calls. calls ++ flat_map store_calls rest) first)
        ∙ sym (flat_map-append store_calls here.before (store ∷ rest))
        ∙ ap (flat_map store_calls) (sym here.are),
    some_made (flat_map store_calls here.before) made some,
  )

-- ---- parts

-- the first parts of a directory are put
pub record ArePut (dir : List ℕ) (parts : List (List ℕ)) (n : ℕ) (old now : Option Shelf) (calls_old calls_now : Option (List DepotCall)) : Type 0 where
  pub shelf : now ≡ option_map (with_dir dir (open_state (take n parts))) old
  pub asked : Asked (put_calls dir (take n parts)) calls_old calls_now

pub none_put : (dir : List ℕ) (parts : List (List ℕ)) (old : Option Shelf) (calls : Option (List DepotCall)) → ForSome old (IsOpen dir []) → ArePut dir parts 0 old old calls calls
none_put dir parts old calls begun = record { shelf = by_shelf old begun; asked = none_asked calls }
  where
    by_shelf : (o : Option Shelf) → ForSome o (IsOpen dir []) → o ≡ option_map (with_dir dir (open_state [])) o
    by_shelf None h = refl
    by_shelf (Some s) h = ap (λ dirs. Some (record s { dirs = dirs })) (sym (set_dir-same dir (open_state []) s.dirs (h s refl)))

module _ (dir : List ℕ) (parts : List (List ℕ)) (n : ℕ) (part d : List ℕ) (old now new : Option Shelf) (calls_old calls_now calls_new : Option (List DepotCall))
    (within : n < length parts) (at : part ≡ get_or parts n d) (so_far : ArePut dir parts n old now calls_old calls_now) where
  more : take (n + 1) parts ≡ take n parts ++ part ∷ []
  more = ap (λ m. take m parts) (add-one n) ∙ take-suc parts n d within ∙ ap (λ x. take n parts ++ x ∷ []) (sym at)

  size : length (take n parts) ≡ n
  size = let l = length-take n parts in omega (arith, l, within)

  pub may_put : (s : Shelf) → now ≡ Some s → CanPut dir n s
  may_put s told = subst (λ m. CanPut dir m s) size (can_put dir (take n parts) old s (sym so_far.shelf ∙ told))

  pub put_more : new ≡ option_map (with_part dir part) now → Asked (call method.Put dir ∷ []) calls_now calls_new
      → ArePut dir parts (n + 1) old new calls_old calls_new
  put_more shelf asked = record {
    shelf = shelf ∙ ap (option_map (with_part dir part)) so_far.shelf ∙ part_added dir part (open_state (take n parts)) old
        ∙ ap (λ ps. option_map (with_dir dir (open_state ps)) old) (sym more);
    asked = subst (λ ps. Asked ps calls_old calls_new) (sym (ap (put_calls dir) more ∙ map-append (λ part. call method.Put dir) (take n parts) (part ∷ [])))
        (asked_then (put_calls dir (take n parts)) (call method.Put dir ∷ []) calls_old calls_now calls_new so_far.asked asked);
  }

  pub stays_open : LeftUnmarked dir now new → LeftUnmarked dir old new
  stays_open left = left_unmarked dir (open_state (take n parts)) old new (subst (λ o. LeftUnmarked dir o new) so_far.shelf left)

  pub put_until : Asked (call method.Put dir ∷ []) calls_now calls_new
      → Asked (put_calls dir (take n parts) ++ call method.Put dir ∷ []) calls_old calls_new
      × ((put_calls dir (take n parts) ++ call method.Put dir ∷ []) ++ put_calls dir (drop (n + 1) parts) ≡ put_calls dir parts)
  put_until asked = (
    asked_then (put_calls dir (take n parts)) (call method.Put dir ∷ []) calls_old calls_now calls_new so_far.asked asked,
    ap (λ calls. calls ++ put_calls dir (drop (n + 1) parts)) (sym (ap (put_calls dir) more ∙ map-append (λ part. call method.Put dir) (take n parts) (part ∷ [])))
        ∙ sym (map-append (λ part. call method.Put dir) (take (n + 1) parts) (drop (n + 1) parts))
        ∙ ap (put_calls dir) (take-append-drop (n + 1) parts),
  )

module _ (dir : List ℕ) (parts : List (List ℕ)) (n : ℕ) (old now : Option Shelf) (calls_old calls_now : Option (List DepotCall)) (is : n ≡ length parts)
    (so_far : ArePut dir parts n old now calls_old calls_now) where
  whole : take n parts ≡ parts
  whole = take_all n parts (omega (arith, is))

  pub put_whole : now ≡ option_map (with_dir dir (open_state parts)) old
  put_whole = so_far.shelf ∙ ap (λ ps. option_map (with_dir dir (open_state ps)) old) whole

  pub asked_whole : Asked (put_calls dir parts) calls_old calls_now
  asked_whole = subst (λ ps. Asked (put_calls dir ps) calls_old calls_now) whole so_far.asked

-- ---- one directory

-- a new directory has no part
pub is_begun : (dir : List ℕ) (old now : Option Shelf) → now ≡ option_map (with_new dir) old → ForSome now (IsOpen dir [])
is_begun dir old now is = subst (λ o. ForSome o (IsOpen dir [])) (sym is) (by_shelf old)
  where
    by_shelf : (o : Option Shelf) → ForSome (option_map (with_new dir) o) (IsOpen dir [])
    by_shelf None = λ s e. absurd (let f : ◌≡◌ {A = Option Shelf} None (Some s) = e in cc)
    by_shelf (Some shelf) = λ s e. let f : Some (with_new dir shelf) ≡ Some s = e in subst (IsOpen dir []) (some_is f) (state_of-set_dir dir (open_state []) shelf.dirs)
      where
        some_is : {x y : Shelf} → Some x ≡ Some y → x ≡ y
        some_is h = cc

pub opened_again : (dir : List ℕ) (parts : List (List ℕ)) (old now new : Option Shelf) → now ≡ option_map (with_dir dir (open_state parts)) old → LeftUnmarked dir now new → LeftUnmarked dir old new
opened_again dir parts old now new is left = left_unmarked dir (open_state parts) old new (subst (λ o. LeftUnmarked dir o new) is left)

pub parts_put : (dir : List ℕ) (parts : List (List ℕ)) (old made now : Option Shelf) → made ≡ option_map (with_new dir) old → now ≡ option_map (with_dir dir (open_state parts)) made
    → now ≡ option_map (with_dir dir (open_state parts)) old
parts_put dir parts old made now created put = put ∙ ap (option_map (with_dir dir (open_state parts))) created ∙ with_dir_again dir (open_state []) (open_state parts) old

pub marked_whole : (dir : List ℕ) (parts : List (List ℕ)) (old made now new : Option Shelf) → made ≡ option_map (with_new dir) old → now ≡ option_map (with_dir dir (open_state parts)) made
    → new ≡ option_map (with_mark dir) now → new ≡ option_map (with_dir dir (whole_state parts)) old
marked_whole dir parts old made now new created put marked =
    marked ∙ ap (option_map (with_mark dir)) (parts_put dir parts old made now created put) ∙ mark_set dir (open_state parts) old

pub calls_so_far : (dir : List ℕ) (parts : List (List ℕ)) (made left : List DepotCall) → made ++ left ≡ put_calls dir parts
    → (call method.Create dir ∷ made) ++ (left ++ call method.Finish dir ∷ []) ≡ calls_of dir parts
calls_so_far dir parts made left first =
    ap (λ calls. call method.Create dir ∷ calls) (sym (append_assoc made left (call method.Finish dir ∷ [])) ∙ ap (λ calls. calls ++ call method.Finish dir ∷ []) first)

pub none_left : {T E : Type 0} (result : Result T E) → IfOk result (λ _. ◌≡◌ {A = List DepotCall} [] [])
none_left (Ok x) = refl
none_left (Err e) = tt

pub whole_asked : (dir : List ℕ) (parts : List (List ℕ)) (made : List DepotCall) (old begun put new : Option (List DepotCall))
    → Asked (call method.Create dir ∷ []) old begun → Asked made begun put → made ≡ put_calls dir parts → Asked (call method.Finish dir ∷ []) put new → Asked (calls_of dir parts) old new
whole_asked dir parts made old begun put new created all is finished =
    let parts_asked : Asked (put_calls dir parts) begun put = subst (λ calls. Asked calls begun put) is all in
    asked_then (call method.Create dir ∷ put_calls dir parts) (call method.Finish dir ∷ []) old put new
    (asked_then (call method.Create dir ∷ []) (put_calls dir parts) old begun put created parts_asked) finished
