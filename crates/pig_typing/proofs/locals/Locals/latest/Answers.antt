use Rattle.std.proofs.Common.{rules, ◌≡◌, Some}
use Rattle.std.specs.Prelude.{None, slice_get}
use Rattle.indexmap.specs.IndexMap.{get_by_text}
use Rattle.pig_typing.proofs.Latest.{index_tells}
use Rattle.pig_typing.proofs.locals.Locals.latest.Goals as goal

pub returns-in_err-get : goal.returns-in_err-get
returns-in_err-get c =
    let at : Some c.in_ok-number.field-0.now ≡ get_by_text c.self.inside.latest c.args.alias.now = search rules in
    let is : None ≡ slice_get c.self.inside.given c.in_ok-number.field-0.now = search rules in
    let none : c.from_residual-in_err-get.result ≡ None = search rules in
    rw (none, ← c.self.view_is) (index_tells c.self.inside.given _ c.args.alias.now _ None (c.self.invariant c.args.alias.now).0 at is)

pub returns : goal.returns
returns c =
    let at : Some c.in_ok-number.field-0.now ≡ get_by_text c.self.inside.latest c.args.alias.now = search rules in
    let is : Some c.in_ok-get.field-0.now ≡ slice_get c.self.inside.given c.in_ok-number.field-0.now = search rules in
    rw (← c.self.view_is) (index_tells c.self.inside.given _ c.args.alias.now _ (Some c.in_ok-get.field-0.now) (c.self.invariant c.args.alias.now).0 at is)
