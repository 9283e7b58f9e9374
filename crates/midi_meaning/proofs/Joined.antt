-- The bytes of exclusives: they are data, and offsets don't matter for them.
use Rattle.std.proofs.Common.{ℕ, ◌≡◌, ◌∙◌, ap, sym, refl, List, [], ◌∷◌, ◌++◌, reverse, Option, Some, None, Bool, true, false, cond}
use Rattle.std.specs.Prelude.{map}
use Rattle.std.specs.Option.{option_map, option_and_then, option_to_list, IfSome}
use Rattle.std.specs.List.{flat_map, AllByRecursion}
use Rattle.std.proofs.lemmas.Bool.{cond_both}
use Rattle.std.proofs.lemmas.List.{append-nil}
use Rattle.std.proofs.lemmas.Grind.{flat_map-append}
use mathlib.Core.List.{reverse_aux, reverse-cons}
use lib.Dec.{eqb}
use Rattle.voice_messages.specs.declared.voice2.Form.{Form}
use Rattle.voice_messages.specs.declared.voice2.Form.TheVariants as form
use Rattle.ump_grammar.specs.declared.packet.Packet.{Packet}
use Rattle.ump_grammar.specs.declared.packet.Packet.TheVariants as packet
use Rattle.sysex_groups.specs.Exclusives.{Part, of_group, since_start, since_start_by, bytes_of, within, joined, ended_by}
use Rattle.midi1_bytes.specs.Messages.{AreData}
use Rattle.listing_terms.specs.Parts.{Placed, part_of, parts_of, packet_parts, whole_of}
use Rattle.midi_meaning.specs.Packets.{IsInRange}

-- ---- they are data

all_append : (xs ys : List ℕ) → AreData xs → AreData ys → AreData (xs ++ ys)
all_append [] ys h k = k
all_append (x ∷ xs) ys h k = (h.0, all_append xs ys h.1 k)

abbrev HasData : Part → Type 0
HasData part = AreData part.bytes

abbrev AllHaveData : List Part → Type 0
AllHaveData parts = AllByRecursion HasData parts

parts_data : (past : List Packet) → AllByRecursion IsInRange past → AllHaveData (packet_parts past)
parts_data [] a = tt
parts_data (packet.Exclusive g f bytes ∷ past) a = (a.0.2, parts_data past a.1)
parts_data (packet.Utility s v ∷ past) a = parts_data past a.1
parts_data (packet.System g m ∷ past) a = parts_data past a.1
parts_data (packet.Voice1 g m ∷ past) a = parts_data past a.1
parts_data (packet.Voice2 g m ∷ past) a = parts_data past a.1
parts_data (packet.Data8 g w ∷ past) a = parts_data past a.1
parts_data (packet.Flex g w ∷ past) a = parts_data past a.1
parts_data (packet.Stream f s l w x y ∷ past) a = parts_data past a.1
parts_data (packet.Reserved w ∷ past) a = parts_data past a.1

group_data : (g : ℕ) (parts : List Part) → AllHaveData parts → AllHaveData (of_group g parts)
group_data g [] a = tt
group_data g (part ∷ parts) a =
    cond_both (eqb part.group g) _ _ AllHaveData (λ e. (a.0, group_data g parts a.1)) (λ e. group_data g parts a.1)

since_data : (parts : List Part) → AllHaveData parts → IfSome (since_start parts) AllHaveData
since_data [] a = tt
since_data (part ∷ parts) a = go part.form (since_start parts) (since_data parts a.1)
  where
    go : (f : Form) (o : Option (List Part)) → IfSome o AllHaveData → IfSome (since_start_by f part o) AllHaveData
    go form.Start o h = (a.0, tt)
    go form.Continue None h = tt
    go form.Continue (Some ps) h = (a.0, h)
    go form.Complete o h = tt
    go form.End o h = tt

reverse_data : (xs acc : List Part) → AllHaveData xs → AllHaveData acc → AllHaveData (reverse_aux xs acc)
reverse_data [] acc h k = k
reverse_data (x ∷ xs) acc h k = reverse_data xs (x ∷ acc) h.1 (h.0, k)

flat_data : (parts : List Part) → AllHaveData parts → AreData (flat_map (λ part. part.bytes) parts)
flat_data [] a = tt
flat_data (part ∷ parts) a = all_append part.bytes _ a.0 (flat_data parts a.1)

bytes_data : (parts : List Part) → AllHaveData parts → AreData (bytes_of parts)
bytes_data parts a = flat_data (reverse parts) (reverse_data parts [] a tt)

joined_data : (g : ℕ) (parts : List Part) → AllHaveData parts → IfSome (joined None g parts) AreData
joined_data g parts a = go (since_start (of_group g parts)) (since_data (of_group g parts) (group_data g parts a))
  where
    go : (o : Option (List Part)) → IfSome o AllHaveData → IfSome (option_map bytes_of (option_and_then (within None) o)) AreData
    go None h = tt
    go (Some ps) h = bytes_data ps h

ended_data : (f : Form) (o : Option (List ℕ)) (bytes : List ℕ) → IfSome o AreData → AreData bytes → IfSome (ended_by None f o bytes) AreData
ended_data form.Complete o bytes h b = b
ended_data form.End None bytes h b = tt
ended_data form.End (Some js) bytes h b = all_append js bytes h b
ended_data form.Start o bytes h b = tt
ended_data form.Continue o bytes h b = tt

pub whole_data : (past : List Packet) (p : Packet) → AllByRecursion IsInRange past → IsInRange p → IfSome (whole_of past p) AreData
whole_data past (packet.Exclusive g f bytes) a b =
    ended_data f (joined None g (packet_parts past)) bytes (joined_data g (packet_parts past) (parts_data past a)) b.2
whole_data past (packet.Utility s v) a b = tt
whole_data past (packet.System g m) a b = tt
whole_data past (packet.Voice1 g m) a b = tt
whole_data past (packet.Voice2 g m) a b = tt
whole_data past (packet.Data8 g w) a b = tt
whole_data past (packet.Flex g w) a b = tt
whole_data past (packet.Stream f s l w x y) a b = tt
whole_data past (packet.Reserved w) a b = tt

-- ---- part by part

-- the bytes of the exclusive that a group has open, from those before the part
abbrev pub begun_with : Form → List ℕ → Option (List ℕ) → Option (List ℕ)
begun_with form.Start bytes before = Some bytes
begun_with form.Continue bytes before = option_map (λ joined. joined ++ bytes) before
begun_with form.Complete bytes before = None
begun_with form.End bytes before = None

abbrev pub joined_by_part : ℕ → List Part → Option (List ℕ)
joined_by_part g [] = None
joined_by_part g (part ∷ parts) =
    cond (eqb part.group g) (begun_with part.form part.bytes (joined_by_part g parts)) (joined_by_part g parts)

pub bytes_of-more : (part : Part) (parts : List Part) → bytes_of (part ∷ parts) ≡ bytes_of parts ++ part.bytes
bytes_of-more part parts =
    ap (flat_map (λ (p : Part). p.bytes)) (reverse-cons part parts)
    ∙ flat_map-append (λ (p : Part). p.bytes) (reverse parts) (part ∷ [])
    ∙ ap (λ l. bytes_of parts ++ l) (append-nil part.bytes)

since-more : (part : Part) (o : Option (List Part))
    → option_map bytes_of (since_start_by part.form part o) ≡ begun_with part.form part.bytes (option_map bytes_of o)
since-more part o = go part.form o
  where
    go : (f : Form) (o : Option (List Part))
        → option_map bytes_of (since_start_by f part o) ≡ begun_with f part.bytes (option_map bytes_of o)
    go form.Start o = ap Some (append-nil part.bytes)
    go form.Continue None = refl
    go form.Continue (Some ps) = ap Some (bytes_of-more part ps)
    go form.Complete o = refl
    go form.End o = refl

joined_none : (o : Option (List Part)) → option_map bytes_of (option_and_then (within None) o) ≡ option_map bytes_of o
joined_none None = refl
joined_none (Some ps) = refl

since-is : (g : ℕ) (parts : List Part) → option_map bytes_of (since_start (of_group g parts)) ≡ joined_by_part g parts
since-is g [] = refl
since-is g (part ∷ parts) = go (eqb part.group g) (since-is g parts)
  where
    go : (t : Bool) → option_map bytes_of (since_start (of_group g parts)) ≡ joined_by_part g parts
        → option_map bytes_of (since_start (cond t (part ∷ of_group g parts) (of_group g parts)))
        ≡ cond t (begun_with part.form part.bytes (joined_by_part g parts)) (joined_by_part g parts)
    go true ih = since-more part (since_start (of_group g parts)) ∙ ap (begun_with part.form part.bytes) ih
    go false ih = ih

pub joined-is : (g : ℕ) (parts : List Part) → joined None g parts ≡ joined_by_part g parts
joined-is g parts = joined_none (since_start (of_group g parts)) ∙ since-is g parts

-- ---- offsets

part-same : (g offset : ℕ) (p : Packet) (xs ys : List Part) → joined_by_part g xs ≡ joined_by_part g ys
    → joined_by_part g (option_to_list (part_of offset p) ++ xs) ≡ joined_by_part g (option_to_list (part_of 0 p) ++ ys)
part-same g offset (packet.Exclusive gr f bytes) xs ys e = ap (λ o. cond (eqb gr g) (begun_with f bytes o) o) e
part-same g offset _ xs ys e = e

parts_of-same : (g : ℕ) (past : List Placed)
    → joined_by_part g (parts_of past) ≡ joined_by_part g (packet_parts (map (λ placed. placed.packet) past))
parts_of-same g [] = refl
parts_of-same g (placed ∷ past) = part-same g placed.offset placed.packet _ _ (parts_of-same g past)

pub joined_without_offsets : (g : ℕ) (past : List Placed)
    → joined None g (parts_of past) ≡ joined None g (packet_parts (map (λ placed. placed.packet) past))
joined_without_offsets g past =
    joined-is g (parts_of past) ∙ parts_of-same g past ∙ sym (joined-is g (packet_parts (map (λ placed. placed.packet) past)))
