use Rattle.std.proofs.Common.{drop, map}
use Rattle.std.specs.List.{AllByRecursion}
use Rattle.std.specs.Option.{ForSome}
use Rattle.pig_outside.specs.Shelf.{AreOfBytes}
use Rattle.pig_run.proofs.commands.inputs_are_of_bytes.Given as goal

abbrev pub invariant-loop-host : goal.invariant-loop-host
invariant-loop-host g l =
    AllByRecursion (λ inputs. ForSome inputs AreOfBytes) (map g.H.Host.inputs (drop l.host-index l.hosts)) → AllByRecursion (λ inputs. ForSome inputs AreOfBytes) (map g.H.Host.inputs l.hosts)
