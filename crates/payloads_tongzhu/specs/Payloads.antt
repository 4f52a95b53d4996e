-- What the payload of a reply says, by its function (002, 5.3 and 6; 01, Tongzhu and Refusal numbers): a record, done or not done, or the
-- refusals 7, 8 and 9.
-- Assumes nothing.
use Rattle.std.specs.Prelude.{ℕ, List, length, get_or, eqb, Result, Ok, Err}
use Rattle.laws.specs.Choice.{pick}
use Rattle.refusals.specs.declared.Refusal.{Refusal}
use Rattle.refusals.specs.declared.Refusal.TheVariants as refusal
use Rattle.monitor3_tongzhu.specs.declared.Monitor3.{Monitor3}
use Rattle.monitor3_tongzhu.specs.Values.{number_at, current_at, temperature_at, status_at}
use Rattle.monitor3_tongzhu.specs.Layout.{found_at}
use Rattle.payloads_tongzhu.specs.declared.Monitor2.{Monitor2}
use Rattle.payloads_tongzhu.specs.declared.Answer.{Answer}
use Rattle.payloads_tongzhu.specs.declared.Answer.TheVariants as is

-- function 11: status 4; current, highest, lowest, total 2 each; two temperatures 1 each; cycles, remaining, capacity 2 each; switch 1
-- (6.2.3)
unfoldable pub monitor2_of : List ℕ → Monitor2
monitor2_of p = record {
  status = status_at p 0;
  current = current_at p 4;
  highest = number_at p 6;
  lowest = number_at p 8;
  total = number_at p 10;
  hottest = temperature_at p 12;
  coldest = temperature_at p 13;
  cycles = number_at p 14;
  remaining = number_at p 16;
  capacity = number_at p 18;
  switch = get_or p 20 0;
}

-- function 12: the fields from the payload's first byte on
abbrev pub answer_in : Result Monitor3 Refusal → Result Answer Refusal
answer_in (Ok m) = Ok (is.Monitor3 m)
answer_in (Err why) = Err why

-- function 30: 01 is done, 02 is not done, another byte is 9 (5.3)
unfoldable pub done_of : ℕ → Result Answer Refusal
done_of b = pick (eqb b 0x01) (Ok is.Done) (pick (eqb b 0x02) (Ok is.NotDone) (Err refusal.Range))

-- an answer whose payload must have n bytes, else 8
unfoldable pub sized : ℕ → List ℕ → Result Answer Refusal → Result Answer Refusal
sized n p a = pick (eqb (length p) n) a (Err refusal.Shape)

-- what the payload says, by the function; a function that is none of these is 7
unfoldable pub payload_of : ℕ → List ℕ → Result Answer Refusal
payload_of f p =
    pick (eqb f 0x11) (sized 21 p (Ok (is.Monitor2 (monitor2_of p))))
    (pick (eqb f 0x12) (answer_in (found_at p 0))
    (pick (eqb f 0x14) (sized 4 p (Ok (is.Status (status_at p 0))))
    (pick (eqb f 0x15) (sized 2 p (Ok (is.Current (current_at p 0))))
    (pick (eqb f 0x30) (sized 1 p (done_of (get_or p 0 0)))
    (Err refusal.Request)))))
