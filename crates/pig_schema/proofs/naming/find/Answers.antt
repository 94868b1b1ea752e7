use Rattle.std.proofs.Common.{◌∙◌, ap, sym, subst}
use Rattle.std.specs.Prelude.{IfOk, IfErr}
use Rattle.pig_schema.specs.FieldTrees.{names_of}
use Rattle.pig_schema.specs.Names.{meaning, IsMeant, IsNameFault}
use Rattle.pig_schema.proofs.Readings.{told}
use Rattle.pig_schema.proofs.naming.find.Goals as goal

pub returns-clause-is : goal.returns-clause-is
returns-clause-is c = c.meaning_of.ensures ∙ (ap (λ s. meaning (names_of s) c.as_bytes.result.now) c.as_slice.ensures ∙ ap (meaning (names_of c.args.s.now)) c.as_bytes.ensures.value)

pub returns-clause-meant : goal.returns-clause-meant
returns-clause-meant c = subst (λ r. IfOk r (IsMeant (names_of c.args.s.now) c.args.name.now)) (sym (returns-clause-is c)) (told (names_of c.args.s.now) c.args.name.now).0

pub returns-clause-fault : goal.returns-clause-fault
returns-clause-fault c = subst (λ r. IfErr r (IsNameFault (names_of c.args.s.now) c.args.name.now)) (sym (returns-clause-is c)) (told (names_of c.args.s.now) c.args.name.now).1
