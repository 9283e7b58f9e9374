-- What is written to the front of a buffer of the caller's.
use Rattle.std.specs.Prelude.{List, ◌++◌, drop, length}

-- the items, and after them what the buffer had there
abbrev pub with_front : {A : Type 0} → List A → List A → List A
with_front front old = front ++ drop (length front) old
