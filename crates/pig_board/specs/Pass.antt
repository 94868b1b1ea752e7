-- Words for what clauses say of a board and of a pass.
use Rattle.std.specs.Prelude.{◌≡◌, ℕ, ◌<◌, Bool, ◌||◌, nat_lt, All}
use Rattle.pig_job.specs.Job.{aside_limit}
use Rattle.pig_board.specs.declared.view.View.{View}
use Rattle.pig_board.specs.declared.board.Board.{Board}
use Rattle.pig_board.specs.declared.board.Pass.{Pass}

-- the number of the board's tasks
abbrev pub tasks_of : Board → ℕ
tasks_of b = b.tasks

-- what the pass knows
abbrev pub view_of : Pass → View
view_of p = p.seat.me.0

-- the pass was made firm, or is split from one that was
abbrev pub is_firm : Pass → Bool
is_firm p = p.is_firm

-- the pass may begin attempts: it has not failed so often in a row that its worker is put aside, or it is firm
abbrev pub may_begin : Pass → Bool
may_begin p = nat_lt (view_of p).streak aside_limit || is_firm p

-- the pass is of this board: its seat is one of the board's table, and its attempts are at the board's tasks
pub record OnBoard (b : Board) (p : Pass) : Type 0 where
  pub seat : p.seat.table_id ≡ b.table.shared.table_id
  pub tasks : All (λ x. x.task < b.tasks) p.seat.me.0.tried
