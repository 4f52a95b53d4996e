-- What a caller finds whose bytes are as many as the row wants: they fill it; and the bytes of words in a part of as many.
-- Assumes nothing.
use mathlib.Core.Path.{◌≡◌, ap, ◌∙◌}
use mathlib.Core.List.{List, ◌++◌, append-nil}
use Prim.Native.Nat.{ℕ, ◌*◌}
use native.Mathlib.Omega.{arith}
use borrow.Author.Tests.{eq-eqb, le-ltb}
use lib.IntN.{ℤ}
use lib.ListN.{length, drop_of_length-le}
use Rattle.std.specs.Prelude.{Ok}
use Rattle.lists_pathfinder.specs.Lists.{words, read_fault, row_read, bytes_of_words, bytes_put}

pub row_read_lem : (s : List ℕ) (row : List ℤ) → length s ≡ 4 * length row → row_read s row ≡ words (length row) s
row_read_lem s row e = rw (eq-eqb (length s) (4 * length row) e)

pub read_fits : (s : List ℕ) (row : List ℤ) → length s ≡ 4 * length row → read_fault s row ≡ Ok tt
read_fits s row e = rw (eq-eqb (length s) (4 * length row) e)

-- a part of just as many bytes
pub part_put_whole : (vs : List ℤ) (part : List ℕ) → length part ≡ 4 * length vs → bytes_put vs part ≡ bytes_of_words vs
part_put_whole vs part e =
    rw (le-ltb (length part) (4 * length vs) (omega arith))
    (ap (λ (l : List ℕ). bytes_of_words vs ++ l) (drop_of_length-le part {i = 4 * length vs} (omega arith)) ∙ append-nil (bytes_of_words vs))
