-- The bytes of a Tongzhu frame, and what the two halves of its writer make of lent room (002, 4; 01, Tongzhu).
-- Assumes nothing.
use Rattle.std.specs.Prelude.{ℕ, ◌+◌, List, [], ◌∷◌, ◌++◌, length, take, drop, Result}
use Rattle.refusals.specs.declared.Refusal.{Refusal}
use Rattle.refusals.specs.Writing.{written_as, over_long}
use Rattle.sums.specs.Sums.{total, closing}

-- SOI, ADD, VER, LEN and FUN of a frame with so many bytes of payload
abbrev pub head_of : ℕ → ℕ → List ℕ
head_of f len = 0x7F ∷ 0x10 ∷ 0x02 ∷ (len + 6) ∷ f ∷ []

-- what the check covers
abbrev pub body_of : ℕ → List ℕ → List ℕ
body_of f load = head_of f (length load) ++ load

-- the check of the bytes before it
abbrev pub end_of : List ℕ → List ℕ
end_of body = closing 256 (total body) ∷ []

-- the frame with this function and this payload
unfoldable pub frame_bytes : ℕ → List ℕ → List ℕ
frame_bytes f load = body_of f load ++ end_of (body_of f load)

-- what either half answers for so many bytes of payload: LEN, which counts the whole frame, is 255 at most
abbrev pub half_as : ℕ → ℕ → Result ℕ Refusal
half_as len places = written_as (over_long 249 len) (len + 6) places

-- the room with a frame begun in it
abbrev pub begun : ℕ → ℕ → List ℕ → List ℕ
begun f len out = head_of f len ++ drop 5 out

-- the room with the check after what stands before it
abbrev pub sealed : ℕ → List ℕ → List ℕ
sealed len out = take (len + 5) out ++ (end_of (take (len + 5) out) ++ drop (len + 6) out)
