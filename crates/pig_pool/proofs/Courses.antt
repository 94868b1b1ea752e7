-- What tries leave, behind what was left before them.
use Rattle.std.proofs.Common.{◌≡◌, ℕ, ◌+◌, ◌≤◌, ◌∙◌, arith}
use Rattle.std.specs.Prelude.{Result, Ok, Err, OnOk}
use Rattle.pig_board.specs.declared.board.Board.{Board}
use Rattle.pig_board.specs.declared.board.Pass.{Pass}
use Rattle.pig_board.specs.declared.view.View.{View}
use Rattle.pig_board.specs.Pass.{view_of, is_firm}
use Rattle.pig_pool.specs.Begins.{Tells}
use Rattle.pig_pool.specs.Workers.{Works, Leaves, Spends, IsTried}
use Rattle.pig_pool.specs.declared.tries.Tried.{Tried}
use Rattle.pig_pool.specs.declared.tries.Tried.TheVariants.{Won, Failed, GivenUp, Aside}
use Rattle.pig_pool.specs.declared.worker.Worker.{Worker}
use Rattle.pig_pool.proofs.Steps.{works-trans}

pub no-less : (n : ℕ) → n ≤ n
no-less n = omega arith

pub no-less-twice : (k m n : ℕ) → k ≤ m → m ≤ n → k ≤ n
no-less-twice k m n a b = omega arith

pub spends-more : (j k n : ℕ) (u v w : View) → j + k ≤ n → Spends j u v → Spends k v w → Spends n u w
spends-more j k n u v w l a b = omega arith

-- a try spends one step at most
pub spent-tried : (limit t : ℕ) (p q : Pass) (r : Tried) → IsTried limit t p q r → Spends 1 (view_of p) (view_of q)
spent-tried limit t p q Won a = a.0
spent-tried limit t p q Failed a = spends-more 0 0 1 (view_of p) (view_of p) (view_of q) (omega arith) (omega arith) a.0
spent-tried limit t p q GivenUp a = spends-more 0 0 1 (view_of p) (view_of p) (view_of q) (omega arith) (omega arith) a.0
spent-tried limit t p q Aside a = spends-more 0 0 1 (view_of p) (view_of p) (view_of q) (omega arith) (omega arith) a.0

ok_then : {C E P Q : Type 0} (m : Result C E) → (P → Q) → OnOk m P → OnOk m Q
ok_then (Ok c) f p = f p
ok_then (Err e) f p = p

-- what is left where a worker u on a host has become v before
pub leaves-more : {O I C E : Type 0} {r : ℕ → O → Type 0} {limit : ℕ} {b : Board} {i l : I} (m : Result C E) (wave j k n : ℕ) (u v w : Worker O) (h : I) (x y z : Tells)
    → is_firm v.pass ≡ is_firm u.pass → Works wave (view_of u.pass) (view_of v.pass) x y → Spends j (view_of u.pass) (view_of v.pass) → i ≡ h → x.faults ≤ y.faults → j + k ≤ n
    → Leaves r limit wave b k v w i l y z m → Leaves r limit wave b n u w h l x z m
leaves-more m wave j k n u v w h x y z firm works room inputs later fit a = record {
  stands = a.stands;
  firm = a.firm ∙ firm;
  works = ok_then m (works-trans wave (view_of u.pass) (view_of v.pass) (view_of w.pass) x y z works) a.works;
  room = ok_then m (spends-more j k n (view_of u.pass) (view_of v.pass) (view_of w.pass) fit room) a.room;
  inputs = a.inputs ∙ inputs;
  later = no-less-twice x.faults y.faults z.faults later a.later;
}
