use Rattle.std.proofs.Common.{◌≡◌, ◌≤◌, ℕ, length, false, Option, Some, None, ap, sym, ◌∙◌, subst}
use Rattle.std.specs.Prelude.{IfSome}
use Rattle.std.specs.Option.{option_map}
use Rattle.ump_grammar.specs.declared.packet.Packet.{Packet}
use Rattle.down_translator.specs.Held.{DownState, refusal_in}
use Rattle.down_translator.specs.Step.{piece_of}
use Rattle.up_translator.specs.Raised.{packet_in}
use Rattle.self_test.specs.ForProofs.Held.{HasReturned}
use Rattle.self_test.proofs.BackLaws.{IsReturned, answered, comes_back_none, comes_back_some}
use Rattle.self_test.proofs.BackLaws.{never_refused, returned_accepted, returned_piece, returned_short, up_is_taken}
use Rattle.self_test.proofs.back.bring_byte_back.Goals as goal

pub bring_down-requires-clause-accepted : goal.bring_down-requires-clause-accepted
bring_down-requires-clause-accepted c =
    let past = c.requires.ready.0 in
    let returned : HasReturned past c.args.up.now c.args.down.now = c.requires.ready.1 in
    let answer =
    answered (c.raised_bytes_are_the_definition.ensures false) c.parsed_bytes_are_the_definition.ensures past c.args.byte c.args.up.now
    returned.up_holds c.requires.ready.2 c.args.offset c.requires.ready.3 c.in-Ok.raised c.in-Ok.ensures.answer in
    let is : packet_in c.in-Ok.raised ≡ Some c.in-Some.packet.now = ap (option_map (λ packet. packet.now)) c.in-Some.is in
    let I : Option Packet → Type 0 = λ one. IfSome one IsReturned in
    let h : IsReturned c.in-Some.packet.now = subst I is answer.returned in
    ap (λ (state : DownState). refusal_in state c.in-Some.packet.now) returned.down_is ∙ returned_accepted c.in-Some.packet.now h

pub returns-in-Some-clause-few : goal.returns-in-Some-clause-few
returns-in-Some-clause-few c =
    let past = c.requires.ready.0 in
    let returned : HasReturned past c.args.up.now c.args.down.now = c.requires.ready.1 in
    let answer =
    answered (c.raised_bytes_are_the_definition.ensures false) c.parsed_bytes_are_the_definition.ensures past c.args.byte c.args.up.now
    returned.up_holds c.requires.ready.2 c.args.offset c.requires.ready.3 c.in-Ok.raised c.in-Ok.ensures.answer in
    let is : packet_in c.in-Ok.raised ≡ Some c.in-Some.packet.now = ap (option_map (λ packet. packet.now)) c.in-Some.is in
    let I : Option Packet → Type 0 = λ one. IfSome one IsReturned in
    let h : IsReturned c.in-Some.packet.now = subst I is answer.returned in
    let N : ℕ → Type 0 = λ count. count ≤ 12 in
    subst N (sym (c.bring_down.ensures.count
    ∙ ap (λ (state : DownState). length (piece_of state c.in-Some.packet.now)) returned.down_is
    ∙ ap length (returned_piece c.in-Some.packet.now h)))
    (returned_short c.in-Some.packet.now h)

pub returns-in-Some-clause-back : goal.returns-in-Some-clause-back
returns-in-Some-clause-back c = λ past returned played place.
    let law = (c.raised_bytes_are_the_definition.ensures false) in
    let parsed = c.parsed_bytes_are_the_definition.ensures in
    let answer =
    answered law parsed past c.args.byte c.args.up.now returned.up_holds played c.args.offset place c.in-Ok.raised c.in-Ok.ensures.answer in
    let is : packet_in c.in-Ok.raised ≡ Some c.in-Some.packet.now = ap (option_map (λ packet. packet.now)) c.in-Some.is in
    let holds =
    up_is_taken law parsed past c.args.byte c.args.up.now returned.up_holds played c.args.offset place c.byte.follows.lender-at-none
    returned.played (c.byte.follows.holds-at-none) in
    comes_back_some past c.args.byte c.in-Ok.raised answer c.byte.follows.lender-at-none holds (played, returned.played)
    c.bring_down.new.down c.args.down.now c.args.offset c.bring_down.result c.in-Some.packet.now is returned.down_is
    c.bring_down.ensures.after c.bring_down.ensures.count

pub returns-in-None-clause-back : goal.returns-in-None-clause-back
returns-in-None-clause-back c = λ past returned played place.
    let law = (c.raised_bytes_are_the_definition.ensures false) in
    let parsed = c.parsed_bytes_are_the_definition.ensures in
    let answer =
    answered law parsed past c.args.byte c.args.up.now returned.up_holds played c.args.offset place c.in-Ok.raised c.in-Ok.ensures.answer in
    let is : packet_in c.in-Ok.raised ≡ None = ap (option_map (λ packet. packet.now)) c.in-None.is in
    let holds =
    up_is_taken law parsed past c.args.byte c.args.up.now returned.up_holds played c.args.offset place c.byte.follows.lender-at-none
    returned.played (c.byte.follows.holds-at-none) in
    comes_back_none past c.args.byte c.in-Ok.raised answer c.byte.follows.lender-at-none holds (played, returned.played) c.args.down.now
    returned.down_is is

pub returns-in-Err-clause-back : goal.returns-in-Err-clause-back
returns-in-Err-clause-back c = λ past returned played place.
    absurd (never_refused (c.raised_bytes_are_the_definition.ensures false) c.parsed_bytes_are_the_definition.ensures past c.args.byte
    c.args.up.now returned.up_holds played c.args.offset place c.in-Err.field-0 c.in-Err.ensures.answer)
