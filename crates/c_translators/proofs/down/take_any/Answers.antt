use Rattle.std.proofs.Common.{refl}
use Rattle.ump_grammar.specs.Reason.{reason}
use Rattle.c_answers.specs.Whole.{is_whole}
use Rattle.c_translators.proofs.DownLaws.{refuses_packet, refuses_words}
use Rattle.c_translators.proofs.down.take_any.Goals as goal

pub returns-in-Err-carry : goal.returns-in-Err-carry
returns-in-Err-carry c =
    record {
      answer = (
        refuses_packet c.args.down.now c.args.offset c.args.words.now c.in-Ok.packet c.in-Err-carry.bad c.of_step.result c.carry.new.down
            c.in-Ok.ensures
            c.in-Err-carry.ensures.answer.0 c.of_step.ensures c.carry.ensures.after,
        c.in-Err-carry.ensures.answer.1,
      );
      kept = c.in-Err-carry.ensures.kept;
    }

pub returns-in-Err : goal.returns-in-Err
returns-in-Err c =
    record {
      answer = (
        refuses_words (is_whole c.args.words.now) (reason c.args.words.now) c.args.down.now c.args.words.now c.in-Err.why c.in-Err.ensures,
        refl,
      );
      kept = refl;
    }
