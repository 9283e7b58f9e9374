-- What stands at an end, of objects that are borrowed, stands of the objects.
use Rattle.std.proofs.Common.{◌≡◌, ap, subst}
use Rattle.pass_loop.specs.Pass.{Cutting, Ends, Seen, Stands, Work}
use Rattle.pass_loop.specs.Places.{FailsAt, Places, borrowed}
use Rattle.pass_loop.specs.Put.{Put}
use Rattle.pass_loop.specs.declared.ends.RunEnd.{RunEnd}
use Rattle.pass_loop.specs.declared.ends.RunEnd.TheVariants.{Done, Refused, ReadFault, LaneFault, OutputFault, NoteFault, NoMemory}
use Rattle.std.specs.Prelude.{List}

abbrev pub given_back : Places → Places
given_back s = borrowed (0, 0, 0) s

abbrev pub seen_back : Seen → Seen
seen_back s = record s { places = given_back s.places }

pub fails_back : (puts : List Put) (end : RunEnd) (old new : Places) → FailsAt puts end old new
    → FailsAt puts end (given_back old) (given_back new)
fails_back puts end old new f =
    record {
      before = f.before;
      failed = f.failed;
      after = f.after;
      parts = f.parts;
      part = f.part;
      is_part = f.is_part;
      end_is = f.end_is;
      stands = ap given_back f.stands;
      counts = f.counts;
    }

pub fails_keep : (puts : List Put) (end : RunEnd) (old new : Places) → FailsAt puts end old new → new.borrows ≡ old.borrows
fails_keep puts end old new f = ap (λ s. s.borrows) f.stands

module _ {Item : Type 0} (IsCut : Cutting Item) (work : Work Item) (old new : Seen) where
  stands_back : (end : RunEnd) → Stands IsCut work old new end → Stands IsCut work (seen_back old) (seen_back new) end
  stands_back Done e = record {
    items = e.items;
    puts = e.puts;
    last = e.last;
    cut = e.cut;
    done = e.done;
    fine = e.fine;
    at_end = e.at_end;
    places = ap given_back e.places;
    reads = e.reads;
  }
  stands_back (Refused reason offset) e =
      record { items = e.items; puts = e.puts; first = e.first; done = e.done; places = ap given_back e.places; reads = e.reads }
  stands_back ReadFault e =
      record { items = e.items; puts = e.puts; given = e.given; done = e.done; places = ap given_back e.places; reads = e.reads }
  stands_back LaneFault e = record {
    items = e.items;
    puts = e.puts;
    next = e.next;
    is_next = e.is_next;
    done = e.done;
    places = fails_back _ _ _ _ e.places;
    reads = e.reads;
  }
  stands_back OutputFault e = record {
    items = e.items;
    puts = e.puts;
    next = e.next;
    is_next = e.is_next;
    done = e.done;
    places = fails_back _ _ _ _ e.places;
    reads = e.reads;
  }
  stands_back NoteFault e = record {
    items = e.items;
    puts = e.puts;
    next = e.next;
    is_next = e.is_next;
    done = e.done;
    places = fails_back _ _ _ _ e.places;
    reads = e.reads;
  }
  stands_back NoMemory e = record {
    grows = e.grows;
    items = e.items;
    puts = e.puts;
    wanted = e.wanted;
    done = e.done;
    places = ap given_back e.places;
    reads = e.reads;
  }

  pub ends_back : (end : RunEnd) → Ends IsCut work old new end → Ends IsCut work (seen_back old) (seen_back new) end
  ends_back end ends = (stands_back end ends.0, ends.1)

  stands_keep : (end : RunEnd) → Stands IsCut work old new end → new.places.borrows ≡ old.places.borrows
  stands_keep Done e = ap (λ s. s.borrows) e.places
  stands_keep (Refused reason offset) e = ap (λ s. s.borrows) e.places
  stands_keep ReadFault e = ap (λ s. s.borrows) e.places
  stands_keep LaneFault e = fails_keep _ _ _ _ e.places
  stands_keep OutputFault e = fails_keep _ _ _ _ e.places
  stands_keep NoteFault e = fails_keep _ _ _ _ e.places
  stands_keep NoMemory e = ap (λ s. s.borrows) e.places

  pub ends_keep : (end : RunEnd) → Ends IsCut work old new end → new.places.borrows ≡ old.places.borrows
  ends_keep end ends = stands_keep end ends.0

  -- the same if another is known to be what stands
  pub ends_as : (end : RunEnd) (now : Places) → given_back new.places ≡ now → Ends IsCut work old new end
      → Ends IsCut work (seen_back old) (record new { places = now }) end
  ends_as end now same ends =
      let E : Places → Type 0 = λ s. Ends IsCut work (seen_back old) (record new { places = s }) end in
      subst E same (ends_back end ends)
