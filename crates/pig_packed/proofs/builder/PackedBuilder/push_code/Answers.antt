use Rattle.std.proofs.Common.{◌++◌, ◌∙◌, ap, sym, subst}
use Rattle.pig_packed.specs.Growth.{IsWhole}
use Rattle.pig_packed.proofs.builder.PackedBuilder.push_code.Goals as goal

pub end_or_undo-requires : goal.end_or_undo-requires
end_or_undo-requires c = subst IsWhole (sym (ap (λ b. b.begun) c.in_ok-write.ensures.ok ∙ ap (λ l. l ++ c.args.code.now) c.requires.none_begun)) c.requires.whole
