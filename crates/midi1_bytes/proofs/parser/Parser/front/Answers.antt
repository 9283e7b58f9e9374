use Rattle.std.proofs.Common.{rules, ◌≡◌, ◌∙◌, None, Some}
use Rattle.midi1_bytes.proofs.FrontLaws.{data_first, given_of_one, given_of_status, given_of_two, none_of_short, none_of_status}
use Rattle.midi1_bytes.proofs.FrontLaws.{status_first, three_and_more, told_as, two_and_more}
use Rattle.midi1_bytes.proofs.parser.Parser.front.Goals as goal

pub returns-in_default-bytes-clause-message : goal.returns-in_default-bytes-clause-message
returns-in_default-bytes-clause-message c =
    let nothing : c.args.self.now.begun ≡ None = search rules in
    none_of_short c.args.self.now c.args.bytes.now nothing c.in_default-bytes.len_below

pub returns-in_default-bytes-2-clause-message : goal.returns-in_default-bytes-2-clause-message
returns-in_default-bytes-2-clause-message c =
    let nothing : c.args.self.now.begun ≡ None = search rules in
    none_of_status c.args.self.now c.args.bytes.now nothing c.in-len2-up.len_at_least c.in_default-bytes-2.len_below
    c.if-first-lt128.false

pub returns-clause-message : goal.returns-clause-message
returns-clause-message c =
    let nothing : c.args.self.now.begun ≡ None = search rules in
    told_as _ _ c.with_status.result
    (status_first c.args.self.now c.args.bytes.now _ _ nothing (three_and_more c.args.bytes.now c.in-len3-up.len_at_least)
    c.if-first-lt128.false) (c.with_status.ensures.message _)

pub returns-clause-front : goal.returns-clause-front
returns-clause-front c =
    let nothing : c.args.self.now.begun ≡ None = search rules in
    given_of_status c.args.self.now c.args.bytes.now _ _ _ _ c.with_status.result nothing
    (three_and_more c.args.bytes.now c.in-len3-up.len_at_least) c.with_status.ensures.front

pub returns-in-Two-clause-message : goal.returns-in-Two-clause-message
returns-in-Two-clause-message c =
    let nothing : c.args.self.now.begun ≡ None = search rules in
    let running : c.args.self.now.running ≡ Some c.in-Two.status = search rules in
    told_as _ _ c.two_running.result
    (data_first c.args.self.now c.args.bytes.now _ _ _ nothing running (two_and_more c.args.bytes.now c.in-len2-up.len_at_least)
    c.if-first-lt128.true) (c.two_running.ensures.message _)

pub returns-in-Two-clause-front : goal.returns-in-Two-clause-front
returns-in-Two-clause-front c =
    let nothing : c.args.self.now.begun ≡ None = search rules in
    let running : c.args.self.now.running ≡ Some c.in-Two.status = search rules in
    given_of_two c.args.self.now c.args.bytes.now _ _ _ c.in-Two.status c.two_running.result nothing running
    (two_and_more c.args.bytes.now c.in-len2-up.len_at_least) c.two_running.ensures.front

pub returns-in-One-clause-message : goal.returns-in-One-clause-message
returns-in-One-clause-message c =
    let nothing : c.args.self.now.begun ≡ None = search rules in
    let running : c.args.self.now.running ≡ Some c.in-One.status = search rules in
    data_first c.args.self.now c.args.bytes.now _ _ _ nothing running (two_and_more c.args.bytes.now c.in-len2-up.len_at_least)
    c.if-first-lt128.true
    ∙ c.one_running.ensures.message _ _

pub returns-in-One-clause-front : goal.returns-in-One-clause-front
returns-in-One-clause-front c =
    let nothing : c.args.self.now.begun ≡ None = search rules in
    let running : c.args.self.now.running ≡ Some c.in-One.status = search rules in
    given_of_one c.args.self.now c.args.bytes.now _ _ c.in-One.status c.one_running.result nothing running
    (two_and_more c.args.bytes.now c.in-len2-up.len_at_least) c.one_running.ensures.front

pub returns-in-Unset-clause-message : goal.returns-in-Unset-clause-message
returns-in-Unset-clause-message c =
    let nothing : c.args.self.now.begun ≡ None = search rules in
    let running : c.args.self.now.running ≡ None = search rules in
    data_first c.args.self.now c.args.bytes.now _ _ _ nothing running (two_and_more c.args.bytes.now c.in-len2-up.len_at_least)
    c.if-first-lt128.true
