-- What drawing writes is permitted, of whatever bytes it was drawn: a challenge passes 5, positions pass 2 and 6, and r has its length and passes 3.
use mathlib.Core.Path.{◌≡◌, ap, ◌∙◌}
use mathlib.Core.Bool.{true}
use mathlib.Core.List.{List}
use Prim.Native.Nat.{ℕ, ◌*◌, ◌^◌, ◌≤◌, ◌<◌}
use native.Mathlib.Omega.{arith}
use borrow.Author.Tests.{eq-eqb}
use lib.ListN.{length}
use Rattle.algebra.specs.Lists.{build}
use Rattle.numbers.specs.Numbers.{bytes}
use Rattle.numbers.proofs.Tests.{◌&◌}
use Rattle.field.specs.BabyBear.{p}
use Rattle.code.proofs.Sizes.{count-few, count-positive}
use Rattle.theory.specs.Buffers.{number_at}
use Rattle.theory.specs.Sizes.{has_length, elements_below, positions_below}
use Rattle.theory.specs.Statements.{PermittedChallenge, PermittedPositions}
use Rattle.theory.specs.Fp.{fp}
use Rattle.theory.proofs.CheckLaws.{written-accepted}
use Rattle.theory.proofs.HonestList.{few-items}
use Rattle.draw.specs.Draw.{seed_of, challenge_of, position_of, r_of, draw_challenge, draw_positions, draw_r}
use Rattle.draw.proofs.Bounds.{challenge-permitted, challenge-read, position-below, r-below, drawn-below, drawn-length}
use Rattle.draw.proofs.Passed.{challenge-passes, PositionsFit, positions-pass}

-- ---- a challenge

module _ (m n k l : ℕ) (items quotient seed challenge : List ℕ) (accepted : (draw_challenge m n k l items quotient seed challenge).answer ≡ 0) where
  pub drawn-seed : (draw_challenge m n k l items quotient seed challenge).seed ≡ seed_of m n k l items quotient
  unfolding draw_challenge
  drawn-seed = written-accepted _ seed accepted

  -- The number that is read from the four bytes.
  pub drawn-challenge : number_at (draw_challenge m n k l items quotient seed challenge).challenge 0 ≡ challenge_of l (seed_of m n k l items quotient)
  unfolding draw_challenge
  drawn-challenge =
      ap (λ (b : List ℕ). number_at b 0) (written-accepted _ challenge accepted)
      ∙ challenge-read l (seed_of m n k l items quotient) (few-items l (challenge-passes m n k l items quotient seed challenge accepted).fits.count-fits)

  -- It passes 5.
  pub drawn-challenge-permitted : PermittedChallenge fp l (number_at (draw_challenge m n k l items quotient seed challenge).challenge 0)
  unfolding draw_challenge
  drawn-challenge-permitted =
      rw drawn-challenge (challenge-permitted l (seed_of m n k l items quotient) (few-items l (challenge-passes m n k l items quotient seed challenge accepted).fits.count-fits))

-- ---- positions

module _ (k l t challenge : ℕ) (seed root positions : List ℕ) (accepted : (draw_positions k l t challenge seed root positions).answer ≡ 0) where
  counted : PositionsFit k l t challenge seed root positions
  unfolding draw_positions
  counted = (positions-pass k l t challenge seed root positions accepted).fits

  drawn-positions : (draw_positions k l t challenge seed root positions).positions ≡ bytes (build t (position_of k seed challenge root))
  unfolding draw_positions
  drawn-positions = written-accepted _ positions accepted

  -- They pass 2 and 6.
  pub drawn-positions-permitted : PermittedPositions k t (draw_positions k l t challenge seed root positions).positions
  drawn-positions-permitted = record {
    check2 = counted.positions-count & eq-eqb _ _ (ap length drawn-positions ∙ drawn-length t (4 * k) (position_of k seed challenge root) word below);
    check6 = ap (positions_below k) drawn-positions ∙ drawn-below t (4 * k) (position_of k seed challenge root) word below;
  }
    where
      word : 4 * k ≤ 2 ^ 32
      word = omega (arith, count-few k counted.count)

      below : (j : ℕ) → position_of k seed challenge root j < 4 * k
      below = position-below k seed challenge root (count-positive k counted.count)

-- ---- r

module _ (m n : ℕ) (root x r : List ℕ) (accepted : (draw_r m n root x r).answer ≡ 0) where
  drawn-r : (draw_r m n root x r).r ≡ bytes (build m (r_of root x))
  unfolding draw_r
  drawn-r = written-accepted _ r accepted

  -- It has its length, and passes 3.
  pub drawn-r-fits : has_length (draw_r m n root x r).r (4 * m) ≡ true
  drawn-r-fits = eq-eqb _ _ (ap length drawn-r ∙ drawn-length m p (r_of root x) (omega arith) (r-below root x))

  pub drawn-r-below : elements_below (draw_r m n root x r).r ≡ true
  drawn-r-below = ap elements_below drawn-r ∙ drawn-below m p (r_of root x) (omega arith) (r-below root x)
