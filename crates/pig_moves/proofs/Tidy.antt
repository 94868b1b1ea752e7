-- A plan whose dead nodes read nothing means what it meant; such a plan stays one by moves, and a search that finds no move finds none that there
-- may be.
use Rattle.std.specs.Prelude.{◌≡◌, ◌<◌, ◌≤◌, ◌+◌, ◌==◌, ℕ, zero, suc, Bool, true, false, List, length, Some, slice_get, refl}
use Rattle.std.proofs.Common.{ap, sym, ◌∙◌, arith, true≢false}
use Rattle.std.specs.List.{AllByRecursion, list_any}
use Rattle.std.proofs.lemmas.Option.{slice_get_within}
use Rattle.pig_value.proofs.list_laws.Bags.{either_way}
use Rattle.pig_value.proofs.list_laws.Indexing.{some_at}
use Rattle.pig_value.proofs.list_laws.Listing.{each_of_all, each_weaker, some_same}
use Rattle.pig_value.specs.declared.inputs.Input.{Input}
use Rattle.pig_value.specs.declared.outcomes.Kept.{Kept}
use Rattle.pig_plan.proofs.Meanings.{live_input}
use Rattle.pig_plan.proofs.Rewrites.{each_same, same_itself, same_on}
use Rattle.pig_plan.specs.Nodes.{inputs_of, is_list, is_live, is_sorted, is_store, names}
use Rattle.pig_plan.specs.Plans.{Plan, PlanNode}
use Rattle.pig_plan.specs.Renumbered.{IsSame}
use Rattle.pig_plan.specs.Rewrites.{SameMeaning}
use Rattle.pig_plan.specs.Valid.{IsPlan}
use Rattle.pig_plan.proofs.Living.{User, store_lives, user_of}
use Rattle.pig_moves.specs.Pushed.{AreMoves, CanPart, IsCleared, IsTidy, NoneMayMove, PushedPlansMeanTheSame, none, one_more, one_part, one_room, one_union}
use Rattle.pig_typed.specs.Premises.{FunctionsKeepKinds}
use Rattle.pig_moves.proofs.Keeps.{IsInput, Keeps, inputs_live, keeps_meaning}
use Rattle.pig_moves.proofs.Kept.{list_kept, node_kept, sorted_kept}
use Rattle.pig_moves.proofs.Change.{move_means, stays_tidy}
use Rattle.pig_moves.proofs.Room.{room_means, room_tidy}
use Rattle.pig_moves.proofs.Splits.{split_means, split_tidy}
use Rattle.pig_moves.proofs.Unions.{union_means, union_tidy}

module _ (p q : Plan) (valid : IsPlan p) (valid_q : IsPlan q) (c : IsCleared p q) where
  in_q : (n : ℕ) (v : PlanNode) → slice_get p n ≡ Some v → (w : PlanNode) × (slice_get q n ≡ Some w)
  in_q n v stands = let within = slice_get_within p n v stands in let long = c.size in some_at q n (omega (arith, within, long))

  in_p : (n : ℕ) (w : PlanNode) → slice_get q n ≡ Some w → (v : PlanNode) × (slice_get p n ≡ Some v)
  in_p n w there = let within = slice_get_within q n w there in let long = c.size in some_at p n (omega (arith, within, long))

  abbrev Onwards : ℕ → Type 0
  Onwards fuel = (n : ℕ) (v : PlanNode) → length p ≤ n + fuel → slice_get p n ≡ Some v → is_live p n ≡ true → is_live q n ≡ true

  lives_on : (fuel : ℕ) → Onwards fuel
  lives_on zero n v enough stands alive = let within = slice_get_within p n v stands in absurd (omega (arith, within, enough))
  lives_on (suc fuel) n v enough stands alive = by_store (lives_on fuel) (is_store v.op) refl
    where
      by_user : Onwards fuel → User p n → is_live q n ≡ true
      by_user onwards user =
          let behind = user.behind in
          let found = in_q n v stands in
          live_input q user.m user.u (c.lives user.m user.u user.stands user.lives)
          (onwards user.m user.u (omega (arith, enough, behind)) user.stands user.lives) n user.behind found.0 found.1 user.name

      by_store : Onwards fuel → (b : Bool) → is_store v.op ≡ b → is_live q n ≡ true
      by_store onwards true e = store_lives q n v (c.lives n v stands alive) e
      by_store onwards false e = by_user onwards (user_of p n v stands e alive)

  -- a node that does something in the cleared plan was live, or was a dead one
  abbrev Backwards : ℕ → Type 0
  Backwards fuel = (n : ℕ) (w : PlanNode) → length q ≤ n + fuel → slice_get q n ≡ Some w → is_live q n ≡ true → is_live p n ≡ true

  lives_back : (fuel : ℕ) → Backwards fuel
  lives_back zero n w enough there alive = let within = slice_get_within q n w there in absurd (omega (arith, within, enough))
  lives_back (suc fuel) n w enough there alive = by_store (lives_back fuel) (is_store w.op) refl
    where
      by_user : Backwards fuel → User q n → is_live p n ≡ true
      by_user backwards user =
          let behind = user.behind in
          let was : is_live p user.m ≡ true = backwards user.m user.u (omega (arith, enough, behind)) user.stands user.lives in
          let own = in_p user.m user.u user.stands in
          let same : own.0 ≡ user.u = some_same own.0 user.u (sym (c.lives user.m own.0 own.1 was) ∙ user.stands) in
          let found = in_p n w there in
          live_input p user.m own.0 own.1 was n user.behind found.0 found.1 (ap (λ u. names u.op n) same ∙ user.name)

      by_store : Backwards fuel → (b : Bool) → is_store w.op ≡ b → is_live p n ≡ true
      by_store backwards false e = by_user backwards (user_of q n w there e alive)
      by_store backwards true e = either_way (is_live p n) (λ was. was)
          (λ dead. absurd (true≢false (sym e ∙ ap is_store (c.dead n w there dead))))

  pub cleared_live : (n : ℕ) (v : PlanNode) → slice_get p n ≡ Some v → is_live p n ≡ true → is_live q n ≡ true
  cleared_live n v stands alive = lives_on (length p) n v (omega arith) stands alive

  pub live_was : (n : ℕ) (w : PlanNode) → slice_get q n ≡ Some w → is_live q n ≡ true → is_live p n ≡ true
  live_was n w there alive = lives_back (length q) n w (omega arith) there alive

  abbrev gone : ℕ → Bool
  gone n = false

  node_same : (inputs : List Input) (kept : List Kept) (n : ℕ) (v : PlanNode) → slice_get p n ≡ Some v → is_live p n ≡ true → gone n ≡ false → IsSame p q (λ j. j) inputs kept n
  node_same inputs kept = each_same p q (λ j. j) inputs kept gone (λ n v stands alive stays earlier.
      node_kept p q valid valid_q inputs kept n v stands (c.lives n v stands alive)
      (each_weaker (IsInput p n) (IsSame p q (λ j. j) inputs kept) (λ j input. earlier j input.lower input.lives refl) (inputs_of v.op) (inputs_live p valid n v stands alive)))

  record SameList (n : ℕ) : Type 0 where
    sorted : is_sorted q n ≡ is_sorted p n
    listed : is_list q n ≡ is_list p n

  lists_up_to : (fuel n : ℕ) (v : PlanNode) → n < fuel → slice_get p n ≡ Some v → is_live p n ≡ true → SameList n
  lists_up_to zero n v low stands alive = absurd (omega (arith, low))
  lists_up_to (suc fuel) n v low stands alive =
      let all : AllByRecursion SameList (inputs_of v.op) = each_weaker (IsInput p n) SameList
      (λ j input. let less = input.lower in lists_up_to fuel j input.node (omega (arith, less, low)) input.stands input.lives) (inputs_of v.op) (inputs_live p valid n v stands alive) in
      let sorted : AllByRecursion (λ j. is_sorted q j ≡ is_sorted p j) (inputs_of v.op) = each_weaker SameList (λ j. is_sorted q j ≡ is_sorted p j) (λ j s. s.sorted) (inputs_of v.op) all in
      record {
        sorted = sorted_kept p q valid valid_q n v stands (c.lives n v stands alive) sorted;
        listed = list_kept p q valid valid_q n v stands (c.lives n v stands alive) sorted (each_weaker SameList (λ j. is_list q j ≡ is_list p j) (λ j s. s.listed) (inputs_of v.op) all);
      }

  keeps : Keeps p q gone
  keeps = record {
    size = c.size;
    same = λ inputs kept allowed. node_same inputs kept;
    sorted = λ n v stands alive stays. (lists_up_to (suc n) n v (omega arith) stands alive).sorted;
    lists = λ n v stands alive stays. (lists_up_to (suc n) n v (omega arith) stands alive).listed;
    stays = λ n v stands alive e. record {
      there = c.lives n v stands alive;
      lives = cleared_live n v stands alive;
      inputs = each_of_all (λ j. gone j ≡ false) (λ j. refl) (inputs_of v.op);
    };
    came = λ n w there alive e.
        let was : is_live p n ≡ true = live_was n w there alive in
        let own = in_p n w there in
        (own.1 ∙ ap Some (some_same own.0 w (sym (c.lives n own.0 own.1 was) ∙ there)), was);
  }

  pub cleared_means : SameMeaning p q
  cleared_means = keeps_meaning p q valid gone keeps (λ n v stands alive e. refl)

-- ---- dead nodes read nothing

pub cleared_tidy : (p q : Plan) → IsPlan p → IsPlan q → IsCleared p q → IsTidy q
cleared_tidy p q valid valid_q c n w there dead = either_way (is_live p n)
    (λ alive.
    let own = in_p p q valid valid_q c n w there in
    absurd (true≢false (sym (cleared_live p q valid valid_q c n own.0 own.1 alive) ∙ dead)))
    (λ was. ap inputs_of (c.dead n w there was))

-- ---- moves

pub moves_valid : (p r : Plan) → IsPlan p → AreMoves p r → IsPlan r
moves_valid p _ valid none = valid
moves_valid p _ valid (one_more q r i k before valid_r move) = valid_r
moves_valid p _ valid (one_room q r k before valid_r within is) = valid_r
moves_valid p _ valid (one_union q r i k before valid_r union) = valid_r
moves_valid p _ valid (one_part q s r i k before roomy_q valid_s split valid_r move) = valid_r

pub moves_tidy : (p r : Plan) → IsPlan p → IsTidy p → AreMoves p r → IsTidy r
moves_tidy p _ valid tidy none = tidy
moves_tidy p _ valid tidy (one_more q r i k before valid_r move) =
    stays_tidy q r (moves_valid p q valid before) valid_r i k move (moves_tidy p q valid tidy before)
moves_tidy p _ valid tidy (one_room q r k before valid_r within is) =
    room_tidy q r (moves_valid p q valid before) valid_r k is (omega (arith, within)) (moves_tidy p q valid tidy before)
moves_tidy p _ valid tidy (one_union q r i k before valid_r union) =
    union_tidy q r (moves_valid p q valid before) valid_r i k union (moves_tidy p q valid tidy before)
moves_tidy p _ valid tidy (one_part q s r i k before roomy_q valid_s split valid_r move) =
    stays_tidy s r valid_s valid_r i k move (split_tidy q s (moves_valid p q valid before) k roomy_q valid_s split (moves_tidy p q valid tidy before))

pub moves_mean : FunctionsKeepKinds → (p r : Plan) → IsPlan p → IsTidy p → AreMoves p r → SameMeaning p r
moves_mean functions p _ valid tidy none = same_itself p
moves_mean functions p _ valid tidy (one_more q r i k before valid_r move) =
    same_on p q r (moves_mean functions p q valid tidy before)
    (move_means q r (moves_valid p q valid before) valid_r i k move (moves_tidy p q valid tidy before) functions)
moves_mean functions p _ valid tidy (one_room q r k before valid_r within is) =
    same_on p q r (moves_mean functions p q valid tidy before) (room_means q r (moves_valid p q valid before) valid_r k is (omega (arith, within)))
moves_mean functions p _ valid tidy (one_union q r i k before valid_r union) =
    same_on p q r (moves_mean functions p q valid tidy before)
    (union_means q r (moves_valid p q valid before) valid_r i k union (moves_tidy p q valid tidy before))
moves_mean functions p _ valid tidy (one_part q s r i k before roomy_q valid_s split valid_r move) =
    let tidy_q : IsTidy q = moves_tidy p q valid tidy before in
    let valid_q : IsPlan q = moves_valid p q valid before in
    same_on p q r (moves_mean functions p q valid tidy before)
    (same_on q s r (split_means q s valid_q k roomy_q valid_s split tidy_q)
    (move_means s r valid_s valid_r i k move (split_tidy q s valid_q k roomy_q valid_s split tidy_q) functions))

pub pushed_means : FunctionsKeepKinds → PushedPlansMeanTheSame
pushed_means functions p r valid pushed =
    same_on p pushed.cleared r (cleared_means p pushed.cleared valid pushed.valid pushed.clears)
    (moves_mean functions pushed.cleared r pushed.valid (cleared_tidy p pushed.cleared valid pushed.valid pushed.clears) pushed.moves)

-- where no FILTER stands alone on what it may pass, none that is the only live use does
pub none_moves : (p : Plan) → IsTidy p → ((i k : ℕ) → CanPart p i k → ⊥) → NoneMayMove p
none_moves p tidy never i k move = never i k (record {
  below = move.below;
  cond = move.cond;
  statement = move.statement;
  stands = move.stands;
  above = move.above;
  only = λ n v stands name. either_way (is_live p n) (λ alive. move.only n v stands alive name)
      (λ dead. absurd (true≢false (sym name ∙ ap (λ ns. list_any (λ j. j == i) ns) (tidy n v stands dead))));
  passes = move.passes;
})
