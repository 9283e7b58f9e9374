-- What an initiator reads in the responder's replies.
use Rattle.std.proofs.Common.{arith, ◌≡◌, ◌∙◌, ◌+◌, ◌-◌, ◌*◌, ◌/◌, ◌%◌, ap, sym, refl, subst, ℕ, Bool, true, false, if◌then◌else◌}
use Rattle.std.proofs.Common.{◌==◌, nat_lt, List, [], ◌∷◌, ◌++◌, length, length-append, take, drop, Option, Some, None, unwrap_or}
use Rattle.ci_messages.specs.declared.kind.Kind.{Kind}
use Rattle.ci_messages.specs.declared.kind.Kind.TheVariants as kind
use Rattle.ci_messages.specs.declared.view.Address.{Address}
use Rattle.ci_messages.specs.declared.view.Address.TheVariants as address
use Rattle.ci_messages.specs.Fields.{Value, bytes_of_fields, list, number}
use Rattle.ci_messages.specs.Messages.{channels_in, fields_of, format_of, kind_of}
use Rattle.ci_messages.specs.Positions.{bytes2, bytes4, byte_at, number2_at}
use Rattle.ci_messages.specs.Reading.{address_of, body_of, message_kind}
use Rattle.ci_messages.specs.Writing.{address_number}
use Rattle.ci_responder.specs.Messages.{Message}
use Rattle.ci_responder.specs.Replies.{message_of_payload, payload_with, reply_version}
use Rattle.ci_initiator.specs.Incoming.{SaidToInitiator, ids_from, incoming_in, inventory, other, report, said_by}
use Rattle.ci_initiator.proofs.ListLaws.{byte-behind, take-front}

-- the bytes of a message by its version and the bytes of its body
abbrev with_body : ℕ → ℕ → ℕ → ℕ → ℕ → List ℕ → List ℕ
with_body place sub version source destination body =
    message_of_payload (0x7E ∷ place ∷ 0x0D ∷ sub ∷ version ∷ ((bytes4 source ++ bytes4 destination) ++ body))

body-is : (place sub version source destination : ℕ) (body : List ℕ) → body_of (with_body place sub version source destination body) ≡ body
body-is place sub version source destination body =
    let count : length (with_body place sub version source destination body) - 15 ≡ length body =
    omega (arith, length-append body (0xF7 ∷ [])) in
    ap (λ n. take n (body ++ 0xF7 ∷ [])) count ∙ take-front body (0xF7 ∷ [])

-- the version of a reply
abbrev version : Bool → ℕ
version short = if short then 1 else 2

-- what is said by a message of a sub-id that both versions have
said-is : (place sub source destination : ℕ) (short : Bool) (k : Kind) (body : List ℕ) → kind_of sub (version short) ≡ k →
    said_by (message_kind (with_body place sub (version short) source destination body))
    (body_of (with_body place sub (version short) source destination body))
    ≡ said_by k body
said-is place sub source destination short k body is =
    (λ j. said_by (is j) (body-is place sub (version short) source destination body j))

-- ---- the kinds of replies

pub is-on : (short : Bool) → kind_of 0x24 (version short) ≡ kind.EnabledReport
is-on true = refl
is-on false = refl

pub is-off : (short : Bool) → kind_of 0x25 (version short) ≡ kind.DisabledReport
is-off true = refl
is-off false = refl

pub is-inventory : (short : Bool) → kind_of 0x21 (version short) ≡ kind.ProfileReply
is-inventory true = refl
is-inventory false = refl

pub is-device : (short : Bool) → kind_of 0x71 (version short) ≡ kind.DiscoveryReply
is-device true = refl
is-device false = refl

pub is-invalid : (short : Bool) → kind_of 0x7E (version short) ≡ kind.Invalidate
is-invalid true = refl
is-invalid false = refl

pub is-nak : (short : Bool) → kind_of 0x7F (version short) ≡ kind.Nak
is-nak true = refl
is-nak false = refl

-- an address that was read is read again
pub address-again : (n : ℕ)
    → address_of (address_number (unwrap_or (address_of n) address.Block)) ≡ Some (unwrap_or (address_of n) address.Block)
address-again n = channel (nat_lt n 16) refl
  where
    group : (b : Bool) → nat_lt n 16 ≡ false → (n == 0x7E) ≡ b
        → address_of (address_number (unwrap_or (address_of n) address.Block)) ≡ Some (unwrap_or (address_of n) address.Block)
    group true large is =
        let found : address_of n ≡ Some address.Group =
        ap (λ b. if b then Some (address.Channel n) else if n == 0x7E then Some address.Group else if n == 0x7F then Some address.Block
        else None)
        large
        ∙ ap (λ b. if b then Some address.Group else if n == 0x7F then Some address.Block else None) is in
        let P : Option Address → Type 0 = λ o. address_of (address_number (unwrap_or o address.Block)) ≡ Some (unwrap_or o address.Block) in
        subst P (sym found) refl
    group false large is =
        let found : address_of n ≡ (if n == 0x7F then Some address.Block else None) =
        ap (λ b. if b then Some (address.Channel n) else if n == 0x7E then Some address.Group else if n == 0x7F then Some address.Block
        else None)
        large
        ∙ ap (λ b. if b then Some address.Group else if n == 0x7F then Some address.Block else None) is in
        let P : Option Address → Type 0 = λ o. address_of (address_number (unwrap_or o address.Block)) ≡ Some (unwrap_or o address.Block) in
        subst P (sym found) (block (n == 0x7F))
      where
        block : (b : Bool)
            → address_of (address_number (unwrap_or (if b then Some address.Block else None) address.Block))
            ≡ Some (unwrap_or (if b then Some address.Block else None) address.Block)
        block true = refl
        block false = refl

    channel : (b : Bool) → nat_lt n 16 ≡ b
        → address_of (address_number (unwrap_or (address_of n) address.Block)) ≡ Some (unwrap_or (address_of n) address.Block)
    channel true small =
        let found : address_of n ≡ Some (address.Channel n) =
        ap (λ b. if b then Some (address.Channel n) else if n == 0x7E then Some address.Group else if n == 0x7F then Some address.Block
        else None)
        small in
        let P : Option Address → Type 0 = λ o. address_of (address_number (unwrap_or o address.Block)) ≡ Some (unwrap_or o address.Block) in
        subst P (sym found) found
    channel false large = group (n == 0x7E) large refl

module _ (group : ℕ) (message : Message) (address : Address) (source destination : ℕ) where
  abbrev said_of : ℕ → Kind → List Value → SaidToInitiator
  said_of sub kind values =
      (incoming_in group (message_of_payload (payload_with address sub (reply_version message) source destination
      (bytes_of_fields (fields_of (format_of (reply_version message)) kind) values)))).said

  -- what is said by replies that tell nothing of profiles
  abbrev kinds-are : (sub : ℕ) (k : Kind) → Type 0
  kinds-are sub k = (short : Bool) → kind_of sub (version short) ≡ k

  pub said : (sub : ℕ) (k told : Kind) (values : List Value) → kinds-are sub told →
      said_of sub k values ≡ said_by told (bytes_of_fields (fields_of (format_of (reply_version message)) k) values)
  said sub k told values are =
      said-is (address_number address) sub source destination (message.version == 1) told
      (bytes_of_fields (fields_of (format_of (reply_version message)) k) values) (are (message.version == 1))

  -- the count of channels in a report
  abbrev channel_bytes : ℕ → List ℕ
  channel_bytes channels = bytes_of_fields (channels_in (format_of (reply_version message)) ∷ []) (number channels ∷ [])

  pub report-on : (id : List ℕ) (channels : ℕ) → length id ≡ 5
      → said_of 0x24 kind.EnabledReport (list id ∷ number channels ∷ []) ≡ report id true
  report-on id channels five =
      said 0x24 kind.EnabledReport kind.EnabledReport (list id ∷ number channels ∷ []) is-on
      ∙ ap (λ ids. report ids true) (ap (λ n. take n (id ++ channel_bytes channels)) (sym five) ∙ take-front id (channel_bytes channels))

  pub report-off : (id : List ℕ) (channels : ℕ) → length id ≡ 5
      → said_of 0x25 kind.DisabledReport (list id ∷ number channels ∷ []) ≡ report id false
  report-off id channels five =
      said 0x25 kind.DisabledReport kind.DisabledReport (list id ∷ number channels ∷ []) is-off
      ∙ ap (λ ids. report ids false) (ap (λ n. take n (id ++ channel_bytes channels)) (sym five) ∙ take-front id (channel_bytes channels))

  -- lists of ids, whose counts are of fives
  pub inventory-is : (on off : List ℕ) → length on % 5 ≡ 0 → length off % 5 ≡ 0 →
      said_of 0x21 kind.ProfileReply (list on ∷ list off ∷ []) ≡ inventory on off
  inventory-is on off fives more =
      let q : ℕ = length on / 5 in
      let r : ℕ = length off / 5 in
      let first : List ℕ = bytes2 q ++ on in
      let second : List ℕ = bytes2 r ++ (off ++ []) in
      let body : List ℕ = first ++ ((bytes2 r ++ off) ++ []) in
      let counted : 5 * number2_at body 0 ≡ length on = omega (arith, fives) in
      let on-is : ids_from body 0 ≡ on =
      ap (λ n. take n (on ++ ((bytes2 r ++ off) ++ []))) counted ∙ take-front on ((bytes2 r ++ off) ++ []) in
      let at : 2 + 5 * number2_at body 0 ≡ length first + 0 = omega (arith, counted) in
      let at-next : 2 + 5 * number2_at body 0 + 1 ≡ length first + 1 = omega (arith, counted) in
      let low : byte_at body (2 + 5 * number2_at body 0) ≡ r % 128 = ap (byte_at body) at ∙ byte-behind first ((bytes2 r ++ off) ++ []) 0 in
      let high : byte_at body (2 + 5 * number2_at body 0 + 1) ≡ r / 128 =
      ap (byte_at body) at-next ∙ byte-behind first ((bytes2 r ++ off) ++ []) 1 in
      let counted-off : 5 * number2_at body (2 + 5 * number2_at body 0) ≡ length off = omega (arith, low, high, more) in
      let start : 2 + 5 * number2_at body 0 + 2 ≡ length (first ++ bytes2 r) = omega (arith, counted, length-append first (bytes2 r)) in
      let off-is : ids_from body (2 + 5 * number2_at body 0) ≡ off =
      (λ j. take (counted-off j) (drop (start j) body)) ∙ ap (take (length off)) (behind first (bytes2 r) off) ∙ take-front off [] in
      said 0x21 kind.ProfileReply kind.ProfileReply (list on ∷ list off ∷ []) is-inventory
      ∙ (λ j. inventory (on-is j) (off-is j))
    where
      behind : (xs ys zs : List ℕ) → drop (length (xs ++ ys)) (xs ++ ((ys ++ zs) ++ [])) ≡ zs ++ []
      behind [] ys zs = by ys zs
        where
          by : (ys zs : List ℕ) → drop (length ys) ((ys ++ zs) ++ []) ≡ zs ++ []
          by [] zs = refl
          by (y ∷ ys) zs = by ys zs
      behind (x ∷ xs) ys zs = behind xs ys zs

  -- a reply about the endpoint tells nothing of profiles
  pub said-endpoint : (values : List Value) → said_of 0x73 kind.EndpointReply values ≡ other
  said-endpoint values = by (message.version == 1)
    where
      by : (short : Bool)
          → said_by (message_kind (with_body (address_number address) 0x73 (version short) source destination
          (bytes_of_fields (fields_of (format_of (version short)) kind.EndpointReply) values)))
          (body_of (with_body (address_number address) 0x73 (version short) source destination
          (bytes_of_fields (fields_of (format_of (version short)) kind.EndpointReply) values)))
          ≡ other
      by true = refl
      by false = refl
