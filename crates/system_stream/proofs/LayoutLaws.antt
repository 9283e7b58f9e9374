-- The packet of a message is read as the message.
use Rattle.std.proofs.Common.{ℕ, ◌≡◌, ◌<◌, ◌+◌, ◌*◌, ◌^◌, ◌∙◌, ◌++◌, zero, suc, ap, sym, refl, List}
use Rattle.std.proofs.Common.{[], ◌∷◌, length, drop, get_or, Bool, true, false, arith, lit<, ◌==◌}
use Rattle.std.proofs.Math.Seq.{drop-cons}
use Rattle.std.proofs.lemmas.List.{drop_all}
use Rattle.std.proofs.lemmas.List.Elements.{All-get_or}
use Rattle.voice_messages.specs.declared.voice2.Form.{Form}
use Rattle.voice_messages.specs.declared.voice2.Form.TheVariants as form
use Rattle.ump_grammar.specs.WordFields.{field}
use Rattle.ump_grammar.specs.Spelling.{form_number}
use Rattle.system_stream.specs.declared.message.StreamMessage.{StreamMessage}
use Rattle.system_stream.specs.declared.message.StreamMessage.TheVariants as stream
use Rattle.system_stream.specs.Layout.{AreBytes, IsWritten, has_bad_format, message_in, packet_of}
use Rattle.system_stream.specs.Layout.{half_of, word_of, text_word, word_bytes, bit, flag, form_of}

half-first : (a b : ℕ) → b < 2 ^ 8 → a < 2 ^ 8 → field (half_of a b) 8 8 ≡ a
half-first a b low high = omega arith

half-second : (a b : ℕ) → b < 2 ^ 8 → field (half_of a b) 0 8 ≡ b
half-second a b low = omega arith

byte-alone : (a : ℕ) → a < 2 ^ 8 → field a 0 8 ≡ a
byte-alone a low = omega arith

-- the four bytes of a word
word-bytes : (a b c d : ℕ) → a < 2 ^ 8 → b < 2 ^ 8 → c < 2 ^ 8 → d < 2 ^ 8 → word_bytes (word_of a b c d) ≡ a ∷ b ∷ c ∷ d ∷ []
word-bytes a b c d p q r s =
    let first : field (word_of a b c d) 24 8 ≡ a = omega arith in
    let second : field (word_of a b c d) 16 8 ≡ b = omega arith in
    let third : field (word_of a b c d) 8 8 ≡ c = omega arith in
    let fourth : field (word_of a b c d) 0 8 ≡ d = omega arith in
    λ i. first i ∷ second i ∷ third i ∷ fourth i ∷ []

word-16 : (a b c d : ℕ) → a < 2 ^ 8 → b < 2 ^ 8 → c < 2 ^ 8 → d < 2 ^ 8 → field (word_of a b c d) 16 8 ≡ b
word-16 a b c d p q r s = omega arith

word-8 : (a b c d : ℕ) → a < 2 ^ 8 → b < 2 ^ 8 → c < 2 ^ 8 → d < 2 ^ 8 → field (word_of a b c d) 8 8 ≡ c
word-8 a b c d p q r s = omega arith

word-0 : (a b c d : ℕ) → a < 2 ^ 8 → b < 2 ^ 8 → c < 2 ^ 8 → d < 2 ^ 8 → field (word_of a b c d) 0 8 ≡ d
word-0 a b c d p q r s = omega arith

word-24 : (a b c d : ℕ) → a < 2 ^ 8 → b < 2 ^ 8 → c < 2 ^ 8 → d < 2 ^ 8 → field (word_of a b c d) 24 8 ≡ a
word-24 a b c d p q r s = omega arith

-- a byte of a list of bytes
at : (count : ℕ) (bytes : List ℕ) → AreBytes count bytes → (i : ℕ) → i < count → get_or bytes i 0 < 2 ^ 8
at count bytes are i within =
    let P : ℕ → Type 0 = λ byte. byte < 2 ^ 8 in
    All-get_or P bytes i 0 (omega (arith, are.0)) are.1

-- this many items from an index on, one by one
abbrev items : ℕ → ℕ → List ℕ → List ℕ
items zero i xs = []
items (suc n) i xs = get_or xs i 0 ∷ items n (suc i) xs

items-drop : (n i : ℕ) (xs : List ℕ) → length xs ≡ i + n → drop i xs ≡ items n i xs
items-drop zero i xs all = drop_all i xs (omega (arith, all))
items-drop (suc n) i xs all =
    drop-cons xs i 0 (omega (arith, all)) ∙ ap (λ rest. get_or xs i 0 ∷ rest) (items-drop n (suc i) xs (omega (arith, all)))

items-all : (n : ℕ) (xs : List ℕ) → length xs ≡ n → items n 0 xs ≡ xs
items-all n xs all = sym (items-drop n 0 xs (omega (arith, all)))

text-word : (count : ℕ) (text : List ℕ) → AreBytes count text → (i : ℕ) → i + 3 < count
    → word_bytes (text_word text i) ≡ get_or text i 0 ∷ get_or text (i + 1) 0 ∷ get_or text (i + 2) 0 ∷ get_or text (i + 3) 0 ∷ []
text-word count text are i within =
    word-bytes (get_or text i 0) (get_or text (i + 1) 0) (get_or text (i + 2) 0) (get_or text (i + 3) 0)
    (at count text are i (omega arith)) (at count text are (i + 1) (omega arith)) (at count text are (i + 2) (omega arith))
    (at count text are (i + 3) (omega arith))

-- a name's bytes from byte 3 on
name-bytes : (text : List ℕ) → AreBytes 14 text →
    field (half_of (get_or text 0 0) (get_or text 1 0)) 8 8 ∷ field (half_of (get_or text 0 0) (get_or text 1 0)) 0 8
    ∷ word_bytes (text_word text 2) ++ word_bytes (text_word text 6) ++ word_bytes (text_word text 10) ≡ text
name-bytes text are =
    let first = half-first (get_or text 0 0) (get_or text 1 0) (at 14 text are 1 (lit< tt)) (at 14 text are 0 (lit< tt)) in
    let second = half-second (get_or text 0 0) (get_or text 1 0) (at 14 text are 1 (lit< tt)) in
    let from_2 = text-word 14 text are 2 (lit< tt) in
    let from_6 = text-word 14 text are 6 (lit< tt) in
    let from_10 = text-word 14 text are 10 (lit< tt) in
    let listed : field (half_of (get_or text 0 0) (get_or text 1 0)) 8 8 ∷ field (half_of (get_or text 0 0) (get_or text 1 0)) 0 8
    ∷ word_bytes (text_word text 2) ++ word_bytes (text_word text 6) ++ word_bytes (text_word text 10) ≡ items 14 0 text =
    λ i. first i ∷ second i ∷ from_2 i ++ (from_6 i ++ from_10 i) in
    listed ∙ items-all 14 text are.0

-- a block name's bytes from byte 4 on
block_name-bytes : (block : ℕ) (text : List ℕ) → AreBytes 13 text →
    field (half_of block (get_or text 0 0)) 0 8 ∷ word_bytes (text_word text 1) ++ word_bytes (text_word text 5)
    ++ word_bytes (text_word text 9)
    ≡ text
block_name-bytes block text are =
    let first = half-second block (get_or text 0 0) (at 13 text are 0 (lit< tt)) in
    let from_1 = text-word 13 text are 1 (lit< tt) in
    let from_5 = text-word 13 text are 5 (lit< tt) in
    let from_9 = text-word 13 text are 9 (lit< tt) in
    let listed : field (half_of block (get_or text 0 0)) 0 8 ∷ word_bytes (text_word text 1) ++ word_bytes (text_word text 5)
    ++ word_bytes (text_word text 9)
    ≡ items 13 0 text =
    λ i. first i ∷ from_1 i ++ (from_5 i ++ from_9 i) in
    listed ∙ items-all 13 text are.0

form-again : (f : Form) → form_of (form_number f) ≡ f
form-again form.Complete = refl
form-again form.Start = refl
form-again form.Continue = refl
form-again form.End = refl

bit-small : (b : Bool) → bit b < 2
bit-small false = lit< tt
bit-small true = lit< tt

bit-again : (b : Bool) → (bit b == 1) ≡ b
bit-again false = refl
bit-again true = refl

flag-again : (word at : ℕ) (b : Bool) → field word at 1 ≡ bit b → flag word at ≡ b
flag-again word at b is = ap (λ n. n == 1) is ∙ bit-again b

-- the second word of Endpoint Info
info-read : (major minor : ℕ) (fixed : Bool) (blocks : ℕ) (midi2 midi1 receives sends : Bool) → blocks < 2 ^ 7 → major < 2 ^ 8
    → minor < 2 ^ 8 →
    message_in (packet_of (stream.Info major minor fixed blocks midi2 midi1 receives sends))
    ≡ stream.Info major minor fixed blocks midi2 midi1 receives sends
info-read major minor fixed blocks midi2 midi1 receives sends few high low =
    let word : ℕ = bit fixed * 2 ^ 31 + blocks * 2 ^ 24 + bit midi2 * 2 ^ 9 + bit midi1 * 2 ^ 8 + bit receives * 2 + bit sends in
    let fixed_small = bit-small fixed in
    let midi2_small = bit-small midi2 in
    let midi1_small = bit-small midi1 in
    let receives_small = bit-small receives in
    let sends_small = bit-small sends in
    let major_is = half-first major minor low high in
    let minor_is = half-second major minor low in
    let fixed_is = flag-again word 31 fixed (omega arith) in
    let blocks_is : field word 24 7 ≡ blocks = omega arith in
    let midi2_is = flag-again word 9 midi2 (omega arith) in
    let midi1_is = flag-again word 8 midi1 (omega arith) in
    let receives_is = flag-again word 1 receives (omega arith) in
    let sends_is = flag-again word 0 sends (omega arith) in
    λ i. stream.Info (major_is i) (minor_is i) (fixed_is i) (blocks_is i) (midi2_is i) (midi1_is i) (receives_is i) (sends_is i)

block_info-read : (active : Bool) (block hint midi1 direction first count ci sysex8 : ℕ)
    → IsWritten (stream.BlockInfo active block hint midi1 direction first count ci sysex8) →
    message_in (packet_of (stream.BlockInfo active block hint midi1 direction first count ci sysex8))
    ≡ stream.BlockInfo active block hint midi1 direction first count ci sysex8
block_info-read active block hint midi1 direction first count ci sysex8 fits =
    let half : ℕ = half_of (bit active * 2 ^ 7 + block) (hint * 2 ^ 4 + midi1 * 2 ^ 2 + direction) in
    let small = bit-small active in
    let active_is = flag-again half 15 active (omega arith) in
    let block_is : field half 8 7 ≡ block = omega arith in
    let hint_is : field half 4 2 ≡ hint = omega arith in
    let midi1_is : field half 2 2 ≡ midi1 = omega arith in
    let direction_is : field half 0 2 ≡ direction = omega arith in
    let first_is = word-24 first count ci sysex8 fits.4 fits.5 fits.6 fits.7 in
    let count_is = word-16 first count ci sysex8 fits.4 fits.5 fits.6 fits.7 in
    let ci_is = word-8 first count ci sysex8 fits.4 fits.5 fits.6 fits.7 in
    let sysex8_is = word-0 first count ci sysex8 fits.4 fits.5 fits.6 fits.7 in
    λ i. stream.BlockInfo (active_is i) (block_is i) (hint_is i) (midi1_is i) (direction_is i) (first_is i) (count_is i) (ci_is i)
    (sysex8_is i)

identity-read : (manufacturer family model revision : List ℕ) → IsWritten (stream.Identity manufacturer family model revision) →
    message_in (packet_of (stream.Identity manufacturer family model revision)) ≡ stream.Identity manufacturer family model revision
identity-read manufacturer family model revision fits =
    let m0 = at 3 manufacturer fits.0 0 (lit< tt) in
    let m1 = at 3 manufacturer fits.0 1 (lit< tt) in
    let m2 = at 3 manufacturer fits.0 2 (lit< tt) in
    let zero_fits : 0 < 2 ^ 8 = lit< tt in
    let second = word-16 0 (get_or manufacturer 0 0) (get_or manufacturer 1 0) (get_or manufacturer 2 0) zero_fits m0 m1 m2 in
    let third = word-8 0 (get_or manufacturer 0 0) (get_or manufacturer 1 0) (get_or manufacturer 2 0) zero_fits m0 m1 m2 in
    let fourth = word-0 0 (get_or manufacturer 0 0) (get_or manufacturer 1 0) (get_or manufacturer 2 0) zero_fits m0 m1 m2 in
    let f0 = at 2 family fits.1 0 (lit< tt) in
    let f1 = at 2 family fits.1 1 (lit< tt) in
    let d0 = at 2 model fits.2 0 (lit< tt) in
    let d1 = at 2 model fits.2 1 (lit< tt) in
    let family_first = word-24 (get_or family 0 0) (get_or family 1 0) (get_or model 0 0) (get_or model 1 0) f0 f1 d0 d1 in
    let family_second = word-16 (get_or family 0 0) (get_or family 1 0) (get_or model 0 0) (get_or model 1 0) f0 f1 d0 d1 in
    let model_first = word-8 (get_or family 0 0) (get_or family 1 0) (get_or model 0 0) (get_or model 1 0) f0 f1 d0 d1 in
    let model_second = word-0 (get_or family 0 0) (get_or family 1 0) (get_or model 0 0) (get_or model 1 0) f0 f1 d0 d1 in
    let revision_is = text-word 4 revision fits.3 0 (lit< tt) in
    let listed : message_in (packet_of (stream.Identity manufacturer family model revision))
    ≡ stream.Identity (items 3 0 manufacturer) (items 2 0 family) (items 2 0 model) (items 4 0 revision) =
    λ i. stream.Identity (second i ∷ third i ∷ fourth i ∷ []) (family_first i ∷ family_second i ∷ []) (model_first i ∷ model_second i ∷ [])
    (revision_is i) in
    let manufacturer_is = items-all 3 manufacturer fits.0.0 in
    let family_is = items-all 2 family fits.1.0 in
    let model_is = items-all 2 model fits.2.0 in
    let revision_all = items-all 4 revision fits.3.0 in
    listed ∙ (λ i. stream.Identity (manufacturer_is i) (family_is i) (model_is i) (revision_all i))

pub message-read : (m : StreamMessage) → IsWritten m → message_in (packet_of m) ≡ m
message-read (stream.Discovery major minor filter) fits =
    let major_is = half-first major minor fits.1 fits.0 in
    let minor_is = half-second major minor fits.1 in
    let filter_is = byte-alone filter fits.2 in
    λ i. stream.Discovery (major_is i) (minor_is i) (filter_is i)
message-read (stream.Info major minor fixed blocks midi2 midi1 receives sends) fits =
    info-read major minor fixed blocks midi2 midi1 receives sends fits.2 fits.0 fits.1
message-read (stream.Identity manufacturer family model revision) fits = identity-read manufacturer family model revision fits
message-read (stream.Name f text) fits =
    let form_is = form-again f in
    let text_is = name-bytes text fits in
    λ i. stream.Name (form_is i) (text_is i)
message-read (stream.ProductId f text) fits =
    let form_is = form-again f in
    let text_is = name-bytes text fits in
    λ i. stream.ProductId (form_is i) (text_is i)
message-read (stream.ConfigRequest protocol jr) fits =
    let protocol_is = half-first protocol jr fits.1 fits.0 in
    let jr_is = half-second protocol jr fits.1 in
    λ i. stream.ConfigRequest (protocol_is i) (jr_is i)
message-read (stream.ConfigNotice protocol jr) fits =
    let protocol_is = half-first protocol jr fits.1 fits.0 in
    let jr_is = half-second protocol jr fits.1 in
    λ i. stream.ConfigNotice (protocol_is i) (jr_is i)
message-read (stream.BlockDiscovery block filter) fits =
    let block_is = half-first block filter fits.1 fits.0 in
    let filter_is = half-second block filter fits.1 in
    λ i. stream.BlockDiscovery (block_is i) (filter_is i)
message-read (stream.BlockInfo active block hint midi1 direction first count ci sysex8) fits =
    block_info-read active block hint midi1 direction first count ci sysex8 fits
message-read (stream.BlockName f block text) fits =
    let form_is = form-again f in
    let block_is = half-first block (get_or text 0 0) (at 13 text fits.1 0 (lit< tt)) fits.0 in
    let text_is = block_name-bytes block text fits.1 in
    λ i. stream.BlockName (form_is i) (block_is i) (text_is i)
message-read stream.StartClip fits = refl
message-read stream.EndClip fits = refl
message-read stream.Other fits = absurd fits

pub format-good : (m : StreamMessage) → IsWritten m → has_bad_format (packet_of m) ≡ false
format-good (stream.Discovery major minor filter) fits = refl
format-good (stream.Info major minor fixed blocks midi2 midi1 receives sends) fits = refl
format-good (stream.Identity manufacturer family model revision) fits = refl
format-good (stream.Name f text) fits = refl
format-good (stream.ProductId f text) fits = refl
format-good (stream.ConfigRequest protocol jr) fits = refl
format-good (stream.ConfigNotice protocol jr) fits = refl
format-good (stream.BlockDiscovery block filter) fits = refl
format-good (stream.BlockInfo active block hint midi1 direction first count ci sysex8) fits = refl
format-good (stream.BlockName f block text) fits = refl
format-good stream.StartClip fits = refl
format-good stream.EndClip fits = refl
format-good stream.Other fits = absurd fits
