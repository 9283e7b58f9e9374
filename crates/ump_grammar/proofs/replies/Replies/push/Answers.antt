use Rattle.std.proofs.Common.{◌<◌, ◌^◌, length, get_or, lit<, arith, ap, length-append}
use Rattle.ump_grammar.proofs.Counting.{encoded_count}
use Rattle.ump_grammar.proofs.replies.Replies.push.Goals as goal

pub extend-requires : goal.extend-requires
extend-requires c =
    let words = c.as_slice-words.result.now in
    let first : get_or words 0 0 < 2 ^ 32 = omega arith in
    let count =
    encoded_count c.args.packet.now words c.encode-encoded.result c.as_slice-words.ensures.words first c.encode-encoded.ensures.spelled in
    (lit< tt, omega (arith, count, ap length c.self.view_is))

pub returns-clause-length : goal.returns-clause-length
returns-clause-length c =
    let words = c.as_slice-words.result.now in
    let first : get_or words 0 0 < 2 ^ 32 = omega arith in
    let count =
    encoded_count c.args.packet.now words c.encode-encoded.result c.as_slice-words.ensures.words first c.encode-encoded.ensures.spelled in
    omega (arith, count, ap length c.extend.ensures, length-append c.self.inside.words words, ap length c.self.view_is)
