-- `search_pathfinder::span` meets its contract: each way out by its law; a span lies within the input.
-- Assumes nothing.
use mathlib.Core.Path.{refl}
use native.Mathlib.Omega.{arith}
use Rattle.search_pathfinder.proofs.Spans.{no_length, cut_off, no_end, a_span}
use borrow.Author.Rules.{rules}
use Rattle.search_pathfinder.proofs.span.Goals as goal

pub returns-then-n-eq0 : goal.returns-then-n-eq0
returns-then-n-eq0 c = (no_length _ _ (search rules) (search rules) _ refl c.if-n-eq0.true, omega arith)

pub returns-then-s-i : goal.returns-then-s-i
returns-then-s-i c = (cut_off _ _ (search rules) (search rules) _ refl c.if-n-eq0.false c.if-s-i.true, omega arith)

pub returns-then-s-i-2 : goal.returns-then-s-i-2
returns-then-s-i-2 c = (no_end _ _ (search rules) (search rules) _ refl c.if-n-eq0.false (search rules) c.if-s-i-2.true, omega arith)

pub returns : goal.returns
returns c = (a_span _ _ (search rules) (search rules) _ refl c.if-n-eq0.false (search rules) c.if-s-i-2.false, omega arith)
