use Rattle.std.proofs.Common.{ap, drop, length, sym, subst, take, ◌-◌, ◌≡◌, ℕ, List, arith}
use Rattle.ci_messages.specs.Fields.{IsData}
use Rattle.ci_messages.specs.Reading.{body_of}
use Rattle.ci_messages.proofs.DataLaws.{body_is_data}
use Rattle.ci_messages.proofs.reading.body_bytes.Goals as goal

-- the place of F7 by the bytes that a message has without a body
same : (message : List ℕ) → take (length message - 1 - 14) (drop 14 message) ≡ body_of message
same message = ap (λ n. take n (drop 14 message)) (omega arith)

pub returns-clause-bytes : goal.returns-clause-bytes
returns-clause-bytes c = same c.args.message.now

pub returns-clause-data_bytes : goal.returns-clause-data_bytes
returns-clause-data_bytes c =
    subst IsData (sym (same c.args.message.now)) (body_is_data c.args.message.now c.requires.exclusive c.requires.long_enough)
