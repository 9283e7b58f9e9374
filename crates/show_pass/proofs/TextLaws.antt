-- Texts that are joined packet by packet.
use Rattle.std.proofs.Common.{◌≡◌, ◌≤◌, ◌==◌, ℕ, Bool, true, false, nat_le, List, [], ◌∷◌, ◌++◌}
use Rattle.std.proofs.Common.{length, Option, None, Some, refl, ap, sym, ◌∙◌, subst, arith}
use Rattle.std.specs.Prelude.{if◌then◌else◌, reverse}
use Rattle.std.specs.Option.{option_and_then}
use Rattle.std.proofs.lemmas.List.{length-reverse}
use Rattle.std.proofs.lemmas.Bool.{leb-true}
use Rattle.ump_grammar.specs.declared.packet.Packet.{Packet}
use Rattle.system_stream.specs.declared.joined.Joined.{Joined}
use Rattle.system_stream.specs.declared.joined.Joined.TheVariants as joined
use Rattle.system_stream.specs.declared.texts.TextKind.{TextKind}
use Rattle.system_stream.specs.declared.texts.TextKind.TheVariants as kinds
use Rattle.system_stream.specs.Joined.{joined_view}
use Rattle.system_stream.specs.Joining.{State, after_part, answer_of, text_answer, joined_with, limited, state_over}
use Rattle.system_stream.specs.Parts.{Answer, Part, answer_at, bad, ends, finished, held, whole}
use Rattle.system_stream.specs.Texts.{is_text, limit_of, without_leading_zeros, without_trailing_zeros}
use Rattle.midi_lines.specs.TextLines.{IsWithinLimit, joined_text}
use Rattle.show_pass.specs.declared.texts.Texts.{Texts}
use Rattle.show_pass.specs.Texts.{AreOfTheirKinds, joined_of, line_of_text, of_kind}
use Rattle.show_pass.specs.Texts.{parts_of_kind, text_line, text_of, texts_after, texts_of}

-- ---- a whole text is within the limit of its kind

shorter : (zero : Bool) (byte : ℕ) (bytes rest : List ℕ) → length rest ≤ length bytes
    → length (if zero then rest else byte ∷ bytes) ≤ length (byte ∷ bytes)
shorter true byte bytes rest less = omega (arith, less)
shorter false byte bytes rest less = omega arith

zeros-shorten : (bytes : List ℕ) → length (without_leading_zeros bytes) ≤ length bytes
zeros-shorten [] = omega arith
zeros-shorten (byte ∷ bytes) = shorter (byte == 0) byte bytes (without_leading_zeros bytes) (zeros-shorten bytes)

trimmed-shorten : (bytes : List ℕ) → length (without_trailing_zeros bytes) ≤ length bytes
trimmed-shorten bytes =
    omega (arith, length-reverse (without_leading_zeros (reverse bytes)), zeros-shorten (reverse bytes), length-reverse bytes)

-- an answer with a text within the limit
abbrev IsWithin : ℕ → Answer → Type 0
IsWithin limit held = Unit {0}
IsWithin limit (whole bytes) = length bytes ≤ limit
IsWithin limit bad = Unit {0}

finished-within : (kind : TextKind) (bytes : List ℕ) (limit : ℕ) → length bytes ≤ limit → IsWithin limit (finished kind bytes)
finished-within kind bytes limit fits = by_text (is_text kind (without_trailing_zeros bytes))
  where
    by_text : (is : Bool) → IsWithin limit (if is then whole (without_trailing_zeros bytes) else bad)
    by_text true = omega (arith, trimmed-shorten bytes, fits)
    by_text false = tt

answer-within : (state : State) (part : Part) → IsWithin (limit_of state.kind) (text_answer state part)
answer-within state part = by_joined (joined_with state.text part)
  where
    by_end : (bytes : List ℕ) (is : Bool) → length bytes ≤ limit_of state.kind
        → IsWithin (limit_of state.kind) (if is then finished state.kind bytes else held)
    by_end bytes true fits = finished-within state.kind bytes (limit_of state.kind) fits
    by_end bytes false fits = tt

    by_limit : (bytes : List ℕ) (within : Bool) → nat_le (length bytes) (limit_of state.kind) ≡ within
        → IsWithin (limit_of state.kind) (answer_of state.kind part.form (if within then Some bytes else None))
    by_limit bytes true is = by_end bytes (ends part.form) (leb-true (length bytes) (limit_of state.kind) is)
    by_limit bytes false is = tt

    by_joined : (bytes : Option (List ℕ))
        → IsWithin (limit_of state.kind) (answer_of state.kind part.form (option_and_then (limited state.kind) bytes))
    by_joined None = tt
    by_joined (Some bytes) = by_limit bytes (nat_le (length bytes) (limit_of state.kind)) refl

pub joined-within : (kind : TextKind) (state : State) (part : Part) (j : Joined) → state.kind ≡ kind
    → joined_view j ≡ text_answer state part → IsWithinLimit kind j
joined-within kind state part j is view =
    let W : Answer → Type 0 = λ a. IsWithin (limit_of state.kind) a in
    let K : TextKind → Type 0 = λ k. IsWithin (limit_of k) (joined_view j) in
    by_view j (subst K is (subst W (sym view) (answer-within state part)))
  where
    by_view : (k : Joined) → IsWithin (limit_of kind) (joined_view k) → IsWithinLimit kind k
    by_view joined.Held fits = tt
    by_view (joined.Whole bytes) fits = fits
    by_view joined.Bad fits = tt

-- ---- the state equals the definition

-- the texts of a kind are joined from the parts of that kind
one_more : (kind : TextKind) (text : Option (TextKind × Part)) (texts : Texts) (past : List Part)
    → joined_of kind texts ≡ state_over kind past → joined_of kind (texts_after text texts) ≡ state_over kind (of_kind kind text ++ past)
one_more kind None texts past is = is
one_more kinds.EndpointName (Some (kinds.EndpointName, part)) texts past is = ap (λ s. after_part s part) is
one_more kinds.EndpointName (Some (kinds.ProductId, part)) texts past is = is
one_more kinds.EndpointName (Some (kinds.BlockName, part)) texts past is = is
one_more kinds.ProductId (Some (kinds.EndpointName, part)) texts past is = is
one_more kinds.ProductId (Some (kinds.ProductId, part)) texts past is = ap (λ s. after_part s part) is
one_more kinds.ProductId (Some (kinds.BlockName, part)) texts past is = is
one_more kinds.BlockName (Some (kinds.EndpointName, part)) texts past is = is
one_more kinds.BlockName (Some (kinds.ProductId, part)) texts past is = is
one_more kinds.BlockName (Some (kinds.BlockName, part)) texts past is = ap (λ s. after_part s part) is

pub joined-are : (kind : TextKind) (past : List Packet) → joined_of kind (texts_of past) ≡ state_over kind (parts_of_kind kind past)
joined-are kinds.EndpointName [] = refl
joined-are kinds.ProductId [] = refl
joined-are kinds.BlockName [] = refl
joined-are kind (packet ∷ past) = one_more kind (text_of packet) (texts_of past) (parts_of_kind kind past) (joined-are kind past)

kind-stays : (kind : TextKind) (past : List Part) → (state_over kind past).kind ≡ kind
kind-stays kind [] = refl
kind-stays kind (part ∷ past) = kind-stays kind past

pub kinds-are : (past : List Packet) → AreOfTheirKinds (texts_of past)
kinds-are past = λ kind. ap (λ s. s.kind) (joined-are kind past) ∙ kind-stays kind (parts_of_kind kind past)

pub line-is : (answers : (kind : TextKind) (past : List Part) (part : Part)
    → text_answer (state_over kind past) part ≡ answer_at kind past part)
    (past : List Packet) (packet : Packet)
    → line_of_text (text_of packet) (texts_of past) ≡ text_line past packet
line-is answers past packet = by_text (text_of packet)
  where
    by_text : (text : Option (TextKind × Part))
        → line_of_text text (texts_of past)
        ≡ option_and_then (λ (t : TextKind × Part). joined_text t.0 (answer_at t.0 (parts_of_kind t.0 past) t.1)) text
    by_text None = refl
    by_text (Some text) =
        ap (λ s. joined_text text.0 (text_answer s text.1)) (joined-are text.0 past)
        ∙ ap (joined_text text.0) (answers text.0 (parts_of_kind text.0 past) text.1)
