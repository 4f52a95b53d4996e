-- A job's three parts, put one after the other into so many bytes, are its bytes (`job_put`).
-- Assumes nothing.
use mathlib.Core.Path.{◌≡◌, sym, ap, ap₂, ◌∙◌}
use mathlib.Core.List.{List, ◌++◌, append_assoc}
use Prim.Native.Nat.{ℕ}
use native.Mathlib.Omega.{arith}
use lib.ListN.{length, take, drop, length-append, length-drop}
use lib.Seq.{take_at, drop_at, length-take-le}
use borrow.Rule.Slice.PartMut.{put_mid}
use Rattle.lists_pathfinder.specs.Lists.{bytes_of_words, bytes_put}
use Rattle.lists_pathfinder.proofs.Bytes.{bytes_length}
use Rattle.lists_pathfinder.proofs.Rows.{part_put_whole}
use Rattle.restore_jobs.specs.declared.Job.{Job}
use Rattle.restore_stored.specs.Stored.{phase_bytes, job_bytes}

module _ (j : Job) (b : List ℕ) (present : length j.present ≡ 50) (wanted : length j.wanted ≡ 50) (long : length b ≡ 402) where
  abbrev pub first : List ℕ
  first = bytes_of_words j.present

  abbrev pub second : List ℕ
  second = bytes_of_words j.wanted

  first_size : length first ≡ 200
  first_size = bytes_length j.present ∙ omega arith

  second_size : length second ≡ 200
  second_size = bytes_length j.wanted ∙ omega arith

  -- the first part stands
  pub one_there : (part : List ℕ) → part ≡ bytes_put j.present (take 200 b) → put_mid 0 200 b part ≡ first ++ drop 200 b
  one_there part e =
      ap (λ (l : List ℕ). l ++ drop 200 b)
      (e ∙ part_put_whole j.present (take 200 b) (length-take-le 200 b (omega arith) ∙ omega arith))

  -- and then the second
  pub two_there : (now part : List ℕ) → now ≡ first ++ drop 200 b → part ≡ bytes_put j.wanted (take 200 (drop 200 now))
      → take 400 (put_mid 200 200 now part) ≡ first ++ second
  two_there now part n e =
      let rest = drop 200 now in
      let behind : rest ≡ drop 200 b = ap (drop 200) n ∙ drop_at first (drop 200 b) 200 first_size in
      let room : length rest ≡ 202 = ap length behind ∙ length-drop 200 b ∙ omega arith in
      let there : part ≡ second = e ∙ part_put_whole j.wanted (take 200 rest) (length-take-le 200 rest (omega arith) ∙ omega arith) in
      let before : take 200 now ≡ first = ap (take 200) n ∙ take_at first (drop 200 b) 200 first_size in
      let size : length (first ++ second) ≡ 400 = length-append first second ∙ omega (arith, first_size, second_size) in
      ap (take 400)
      (ap₂ (λ (l m : List ℕ). l ++ (m ++ drop 200 rest)) before there ∙ sym (append_assoc first second (drop 200 rest)))
      ∙ take_at (first ++ second) (drop 200 rest) 400 size

  pub job_put : (front after : List ℕ) → front ≡ first ++ second → after ≡ front ++ phase_bytes j.phase → after ≡ job_bytes j
  unfolding job_bytes
  job_put front after e f = f ∙ ap (λ (l : List ℕ). l ++ phase_bytes j.phase) e
