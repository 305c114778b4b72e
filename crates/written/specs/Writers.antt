-- A writer at the front of a lent area: what it has written, and the room behind that.
use Rattle.std.specs.Prelude.{◌≡◌, ℕ, ◌+◌, ◌^◌, ◌<◌, ◌≤◌, List, length, take}
use Rattle.std.specs.Borrow.{MutBor}
use Rattle.written.specs.declared.writer.Writer.{Writer}

-- the bytes that are written
abbrev pub written : Writer → List ℕ
written w = take w.at w.out.now

-- whether there is room for n bytes more
abbrev pub HasRoom : Writer → ℕ → Type 0
HasRoom w n = w.at + n ≤ length w.out.now

-- the same, and whether the area's length is a number of 32 bits
abbrev pub HasNarrowRoom : Writer → ℕ → Type 0
HasNarrowRoom w n = (w.at + n ≤ length w.out.now) × (length w.out.now < 2 ^ 32)

-- a writer into this area that has written nothing
abbrev pub Begun : MutBor (List ℕ) → Writer → Type 0
Begun out w = (w.out.ghost_name ≡ out.ghost_name) × ((w.out.now ≡ out.now) × (w.at ≡ 0))

-- n bytes further on in the same area
abbrev pub Moved : Writer → Writer → ℕ → Type 0
Moved before after n =
    (after.out.ghost_name ≡ before.out.ghost_name) × ((length after.out.now ≡ length before.out.now) × (after.at ≡ before.at + n))
