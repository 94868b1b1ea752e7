use Rattle.pig_cutter.proofs.Asserts.{told_just}
use Rattle.pig_cutter.proofs.Main.{assert_rows, given_meant, kept_valid, store_answers}
use Rattle.pig_cutter.proofs.Stores.{store_lives, stored_bytes}
use Rattle.pig_waves.proofs.Tasks.{rows_at_node}
use Rattle.pig_cutter.proofs.laws.stages_give_meaning.Goals as goal

pub returns : goal.returns
returns c = λ s inputs kept points outs valid some splits run given.
    let law = c.parts_make_the_rows.ensures.sorted in
    record {
      valid = kept_valid law s inputs kept points outs valid some splits run given;
      nodes = given_meant law s inputs kept points outs valid some splits run given;
      stores = λ k statement input delim path at.
          let alive = store_lives s.plan k statement input delim path at in
          record {
            rows = rows_at_node s inputs outs k;
            bytes = stored_bytes s inputs points outs run k statement input delim path at alive;
            answers = store_answers law s inputs kept points outs valid some splits run given k statement input delim path at alive;
          };
      asserts = λ k statement input test message at alive.
          told_just s inputs points outs valid run kept k statement input test message at alive
          (assert_rows law s inputs kept points outs valid some splits run given k statement input test message at alive);
    }
