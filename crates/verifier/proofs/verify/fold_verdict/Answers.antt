-- `verify::fold_verdict` meets its contract, check by check.
use mathlib.Core.Path.{◌≡◌, refl, sym, ap, ◌∙◌}
use mathlib.Core.Bool.{Bool, true, false, cond}
use mathlib.Core.List.{[]}
use Prim.Native.Nat.{ℕ}
use Rattle.std.proofs.lemmas.Bool.{not-true, not-false}
use Rattle.hash.specs.Sha256.{block_count}
use Rattle.tree.specs.Merkle.{blocks_of}
use Rattle.theory.specs.Checks.{answer_if, every}
use Rattle.theory.specs.Verify.{reached_strings}
use Rattle.theory.specs.Fp.{fp, combines, openings_lead}
use Rattle.fold.specs.Weights.{lagrange_at}
use Rattle.checks.specs.declared.refusal.Refusal.TheVariants.{Values}
use Rattle.checks.specs.Refusals.{answer_of}
use Rattle.checks.proofs.Calls.{fails, passes, passed, failed, ensured}
use Rattle.verifier.specs.declared.shown.Fold.{Fold}
use Rattle.verifier.specs.Verifying.{batch, coefficients, shown, value_combines}
use Rattle.verifier.proofs.Leading.{openings-lead, strings-reached, values-combine}
use Rattle.verifier.proofs.verify.fold_verdict.Goals as goal
use Rattle.verifier.proofs.verify.fold_verdict.Goals.{After-openings_lead-tested}

-- Check 7, with the weights at the challenge.
combined : (f : Fold) {challenge at : ℕ} {r : Bool} → at ≡ challenge → r ≡ combines f.sizes.m f.sizes.n (batch f) (coefficients f) (shown f at)
    → r ≡ combines f.sizes.m f.sizes.n (batch f) (coefficients f) (shown f challenge)
combined f e h = h ∙ ap (λ (a : ℕ). combines f.sizes.m f.sizes.n (batch f) (coefficients f) (shown f a)) e

-- What is hashed where it passes or fails.
abbrev hashed : Fold → ℕ → Bool → ℕ
hashed f challenge b = blocks_of block_count (cond b (reached_strings fp (batch f) (shown f challenge)) [])

pub returns-then-not-combines-clause-blocks : goal.returns-then-not-combines-clause-blocks
unfolding blocks_of
returns-then-not-combines-clause-blocks c =
    ap (hashed c.args.fold.now c.args.challenge) (sym (failed (combined c.args.fold.now c.new-weights.ensures.1 c.combines.ensures) c.if-not-combines.true))

-- Check 8, and what was hashed for it.
lead : (c : After-openings_lead-tested) → c.openings_lead-tested.result.lead ≡ openings_lead (batch c.args.fold.now) (shown c.args.fold.now c.args.challenge)
lead c = openings-lead c.args.fold.now c.args.challenge c.requires.3 c.openings_lead-tested.ensures.lead

counted : (c : After-openings_lead-tested) → c.openings_lead-tested.result.blocks ≡ hashed c.args.fold.now c.args.challenge (combines c.args.fold.now.sizes.m c.args.fold.now.sizes.n (batch c.args.fold.now) (coefficients c.args.fold.now) (shown c.args.fold.now c.args.challenge))
counted c =
    strings-reached c.args.fold.now c.args.challenge c.requires.3 c.openings_lead-tested.ensures.blocks
    ∙ ap (hashed c.args.fold.now c.args.challenge) (sym (passed (combined c.args.fold.now c.new-weights.ensures.1 c.combines.ensures) c.if-not-combines.false))

pub returns-then-not-tested : goal.returns-then-not-tested
returns-then-not-tested c = record {
  verdict = passes 7 (combined c.args.fold.now c.new-weights.ensures.1 c.combines.ensures) c.if-not-combines.false
      (fails 8 _ (lead (goal.at.returns-then-not-tested c).After-openings_lead-tested) (not-true _ c.if-not-tested.true));
  blocks = counted (goal.at.returns-then-not-tested c).After-openings_lead-tested;
}

-- The answer of the last check.
last : (b : Bool) → answer_of (ensured b Values) ≡ answer_if b 9 0
last true = refl
last false = refl

pub returns : goal.returns
returns c =
    let f = c.args.fold.now in
    let combine = values-combine f c.args.challenge c.requires.3 (c.values_combine.ensures ∙ ap (λ (a : ℕ). every f.t (value_combines (lagrange_at f.l a) f)) c.new-weights.ensures.1) in record {
      verdict = passes 7 (combined f c.new-weights.ensures.1 c.combines.ensures) c.if-not-combines.false
          (passes 8 (lead (goal.at.returns c).After-openings_lead-tested) (not-false _ c.if-not-tested.false)
          (ap answer_of c.ensure.ensures ∙ last c.values_combine.result ∙ ap (λ (b : Bool). answer_if b 9 0) combine));
      blocks = counted (goal.at.returns c).After-openings_lead-tested;
    }
