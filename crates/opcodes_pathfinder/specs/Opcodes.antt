-- The opcodes of Pathfinder replies, and what the reply to each request holds (000, Opcode Details; 01, Pathfinder).
-- Assumes nothing.
use Rattle.std.specs.Prelude.{ℕ, Bool, ◌||◌, ◌&&◌, leb, eqb, Option, Some, None}
use Rattle.laws.specs.Choice.{pick}
use Rattle.opcodes_pathfinder.specs.declared.Kind.{Kind}
use Rattle.opcodes_pathfinder.specs.declared.Kind.TheVariants.{Failure as Fails, Asked, Other}
use Rattle.opcodes_pathfinder.specs.declared.Shape.{Shape}
use Rattle.opcodes_pathfinder.specs.declared.Shape.TheVariants.{Words as HasWords, Name as HasName, Nothing}

-- the failure opcodes: 20 to 24, 26, 27 and 2D
unfoldable pub is_failure : ℕ → Bool
is_failure op = (leb 0x20 op && leb op 0x24) || ((leb 0x26 op && leb op 0x27) || eqb op 0x2D)

-- the opcodes of listed requests: 01 to 05 and 0E
unfoldable pub is_listed : ℕ → Bool
is_listed op = (leb 0x01 op && leb op 0x05) || eqb op 0x0E

-- what a reply is, by the request asked and its opcode (01, Pathfinder: a reply whose opcode is 20, 21, ..); "if the request asked about
-- isn't listed, 7 comes before any device failure or error" (01, Refusal numbers)
unfoldable pub kind_of : ℕ → ℕ → Kind
kind_of asked op = pick (is_failure op) (pick (is_listed asked) Fails Other) (pick (is_listed op && eqb op asked) Asked Other)

-- 01 three words, 02 fifty, 03 fifty-three, 04 sixteen, 05 a name, 0E nothing; no other request is listed
unfoldable pub shape_of : ℕ → Option Shape
shape_of asked =
    pick (eqb asked 0x01) (Some (HasWords 3))
    (pick (eqb asked 0x02) (Some (HasWords 50))
    (pick (eqb asked 0x03) (Some (HasWords 53))
    (pick (eqb asked 0x04) (Some (HasWords 16)) (pick (eqb asked 0x05) (Some HasName) (pick (eqb asked 0x0E) (Some Nothing) None)))))
