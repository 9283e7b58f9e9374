use Rattle.std.proofs.Common.{◌≡◌, ◌+◌, ◌-◌, ◌≤◌, ℕ, List, [], ◌∷◌, ◌++◌, length, take}
use Rattle.std.proofs.Common.{drop, true, refl, ap, sym, ◌∙◌, arith, subst, vec_len}
use Rattle.std.specs.Prelude.{is_ok, slice_range}
use Rattle.std.specs.List.{AllByRecursion}
use Rattle.std.proofs.lemmas.List.{take-append-le, drop-append-le, drop_at, take_all, map_push, length-drop}
use Rattle.std.proofs.lemmas.List.Elements.{recursion_from_All}
use Rattle.midi_edge.specs.Entries.{piece_in, pieces_in}
use Rattle.midi_edge.specs.declared.mem_lanes.Entry.{Entry}
use Rattle.midi_edge.proofs.mem_lanes.add.Goals as goal

abbrev IsWithin : ℕ → Entry → Type 0
IsWithin size entry = (entry.start ≤ entry.end) × (entry.end ≤ size)

range-append : (bytes more : List ℕ) (start end : ℕ) → start ≤ end → end ≤ length bytes
    → slice_range (bytes ++ more) start end ≡ slice_range bytes start end
range-append bytes more start end order fits =
    ap (take (end - start)) (drop-append-le start bytes more (omega arith))
    ∙ take-append-le (end - start) (drop start bytes) more (omega (arith, length-drop start bytes))

range_at : (bytes piece : List ℕ) (start end : ℕ) → start ≡ length bytes → end ≡ length bytes + length piece
    → slice_range (bytes ++ piece) start end ≡ piece
range_at bytes piece start end s e =
    ap (take (end - start)) (drop_at bytes piece start (sym s)) ∙ take_all (end - start) piece (omega arith)

-- the pieces so far are the same in a longer buffer
pieces-append : (bytes more : List ℕ) (entries : List Entry) → AllByRecursion (IsWithin (length bytes)) entries
    → pieces_in (bytes ++ more) entries ≡ pieces_in bytes entries
pieces-append bytes more [] within = refl
pieces-append bytes more (entry ∷ entries) within =
    let head : piece_in (bytes ++ more) entry ≡ piece_in bytes entry =
    ap (λ xs. (entry.lane, xs)) (range-append bytes more entry.start entry.end within.0.0 within.0.1) in
    let rest = pieces-append bytes more entries within.1 in
    cc

pieces-push : (bytes piece : List ℕ) (entries : List Entry) (lane start end : ℕ) → AllByRecursion (IsWithin (length bytes)) entries
    → start ≡ length bytes → end ≡ length bytes + length piece
    → pieces_in (bytes ++ piece) (entries ++ record { lane = lane; start = start; end = end } ∷ [])
    ≡ pieces_in bytes entries ++ (lane, piece) ∷ []
pieces-push bytes piece entries lane start end within s e =
    map_push (piece_in (bytes ++ piece)) entries (record { lane = lane; start = start; end = end })
    ∙ ap (λ xs. xs ++ (lane, slice_range (bytes ++ piece) start end) ∷ []) (pieces-append bytes piece entries within)
    ∙ ap (λ xs. pieces_in bytes entries ++ (lane, xs) ∷ []) (range_at bytes piece start end s e)

pub returns-clause-pieces : goal.returns-clause-pieces
returns-clause-pieces c =
    let ok : is_ok c.extend_from_slice.result ≡ true = c.extend_from_slice.ensures.succeeds c.requires.room in
    let size : vec_len c.args.bytes.now ≡ length c.args.bytes.now.items = omega (arith, c.args.bytes.now.ok.0) in
    let P : ℕ → Type 0 = λ n. AllByRecursion (IsWithin n) c.args.entries.now.items in
    let within = subst P size (recursion_from_All (IsWithin (vec_len c.args.bytes.now)) c.args.entries.now.items c.requires.parts) in
    let len = rw ok at c.extend_from_slice.ensures.len in
    rw (rw ok at c.extend_from_slice.ensures.items, c.push_reserved.ensures.items)
    (pieces-push c.args.bytes.now.items c.args.piece.now c.args.entries.now.items c.args.lane c.len-start.result c.len.result within
    (c.len-start.ensures ∙ size) (c.len.ensures ∙ len ∙ ap (λ n. n + length c.args.piece.now) size))
