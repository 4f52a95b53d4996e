-- A job's bytes hold that job (`job_back`), and are taken for one (`is_job_back`). Words read back as rows of them do; the phase by its three cases.
-- Assumes nothing.
use mathlib.Core.Path.{◌≡◌, refl, sym, ap, ap₂, ◌∙◌}
use mathlib.Core.Bool.{true}
use mathlib.Core.List.{List, [], ◌++◌, append_assoc, append-nil}
use Prim.Native.Nat.{ℕ, ◌+◌}
use native.Mathlib.Omega.{arith}
use borrow.Author.Tests.{eq-eqb}
use lib.Dec.{leb}
use lib.IntN.{ℤ}
use lib.ListN.{length, get_or, take, drop, length-append}
use lib.Seq.{take_at, drop_at, get_or_at, get_or-append-add}
use Rattle.lists_pathfinder.specs.Lists.{words, bytes_of_words}
use Rattle.lists_pathfinder.proofs.Bytes.{bytes_length}
use Rattle.lists_pathfinder.proofs.RoundTrip.{Fitting, words_back}
use Rattle.restore_jobs.specs.declared.Phase.{Phase}
use Rattle.restore_jobs.specs.declared.Phase.TheVariants.{Ready, Waiting, Stopped}
use Rattle.restore_jobs.specs.declared.Job.{Job}
use Rattle.restore_bytes.specs.Jobs.{phase_in, job_of, stands, is_job}
use Rattle.restore_bytes.proofs.Held.{job_is}
use Rattle.restore_stored.specs.Stored.{phase_byte, register_byte, phase_bytes, job_bytes}

row_back : (vs : List ℤ) → Fitting vs → words (length vs) (bytes_of_words vs) ≡ vs
row_back vs f = ap (words (length vs)) (sym (append-nil (bytes_of_words vs))) ∙ words_back vs [] f

-- ---- the job

phase_back : (p : Phase) → phase_in (phase_byte p) (register_byte p) ≡ p
unfolding phase_in
phase_back Ready = refl
phase_back (Waiting r) = refl
phase_back Stopped = refl

in_range_lem : (p : Phase) → leb (phase_byte p) 2 ≡ true
in_range_lem Ready = refl
in_range_lem (Waiting r) = refl
in_range_lem Stopped = refl

module _ (j : Job) (present : length j.present ≡ 50) (wanted : length j.wanted ≡ 50) where
  p_size : length (bytes_of_words j.present) ≡ 200
  p_size = bytes_length j.present ∙ omega arith

  w_size : length (bytes_of_words j.wanted) ≡ 200
  w_size = bytes_length j.wanted ∙ omega arith

  front : length (bytes_of_words j.present ++ bytes_of_words j.wanted) ≡ 400
  front = length-append (bytes_of_words j.present) (bytes_of_words j.wanted) ∙ omega (arith, p_size, w_size)

  size : length (job_bytes j) ≡ 402
  unfolding job_bytes
  size = length-append (bytes_of_words j.present ++ bytes_of_words j.wanted) (phase_bytes j.phase) ∙ omega (arith, front)

  grouped : job_bytes j ≡ bytes_of_words j.present ++ (bytes_of_words j.wanted ++ phase_bytes j.phase)
  unfolding job_bytes
  grouped = append_assoc (bytes_of_words j.present) (bytes_of_words j.wanted) (phase_bytes j.phase)

  first_part : take 200 (job_bytes j) ≡ bytes_of_words j.present
  first_part = ap (take 200) grouped ∙ take_at (bytes_of_words j.present) _ 200 p_size

  second_part : take 200 (drop 200 (job_bytes j)) ≡ bytes_of_words j.wanted
  second_part =
      ap (λ (l : List ℕ). take 200 (drop 200 l)) grouped ∙ ap (take 200) (drop_at (bytes_of_words j.present) _ 200 p_size)
      ∙ take_at (bytes_of_words j.wanted) (phase_bytes j.phase) 200 w_size

  phase_there : get_or (job_bytes j) 400 0 ≡ phase_byte j.phase
  unfolding job_bytes
  phase_there = get_or_at (bytes_of_words j.present ++ bytes_of_words j.wanted) _ _ 0 400 front

  register_there : get_or (job_bytes j) 401 0 ≡ register_byte j.phase
  unfolding job_bytes
  register_there =
      let e : 401 ≡ length (bytes_of_words j.present ++ bytes_of_words j.wanted) + 1 = omega (arith, front) in
      ap (λ (i : ℕ). get_or (bytes_of_words j.present ++ bytes_of_words j.wanted ++ phase_bytes j.phase) i 0) e
      ∙ get_or-append-add (bytes_of_words j.present ++ bytes_of_words j.wanted) (phase_bytes j.phase) 1 0

  pub job_back : Fitting j.present → Fitting j.wanted → job_of (job_bytes j) ≡ j
  job_back f g =
      sym (job_is (job_bytes j) (eq-eqb (length (job_bytes j)) 402 size)
      (sym (ap₂ words (sym present) first_part ∙ row_back j.present f))
      (sym (ap₂ words (sym wanted) second_part ∙ row_back j.wanted g))
      (sym (ap₂ phase_in phase_there register_there ∙ phase_back j.phase)))

  -- and are taken for one, where a restore can come to it
  pub is_job_back : Fitting j.present → Fitting j.wanted → stands j ≡ true → is_job (job_bytes j) ≡ true
  unfolding is_job
  is_job_back f g h =
      simp (eq-eqb (length (job_bytes j)) 402 size, phase_there, in_range_lem j.phase) (ap stands (job_back f g) ∙ h)
