-- What an opening shows: against the tree of a whole list, and where no two different strings of a list have one digest.
use mathlib.Core.Path.{◌≡◌, sym, ◌∙◌}
use mathlib.Core.List.{List, []}
use mathlib.Core.Logic.{◌⊎◌, inl, inr, ⊎_elim}
use Prim.Native.Nat.{ℕ, ◌^◌, ◌<◌}
use lib.ListN.{length, get_or}
use Rattle.tree.specs.Merkle.{root, tree_strings, path, opening_root, opening_strings}
use Rattle.tree.specs.Collision.{Collision, NoCollision, Within}
use Rattle.tree.proofs.Completeness.{completeness, path-length}
use Rattle.tree.proofs.Binding.{widen, binding}
use Rattle.tree.proofs.Strings.{path-within}

module _ (digest : List ℕ → List ℕ) (digest-length : (s : List ℕ) → length (digest s) ≡ 32) where
  -- an opening that leads to the root of a list shows the list's entry at its position, or two strings collide
  pub opening-shows : (d : ℕ) (es : List (List ℕ)) (e : List ℕ) (i : ℕ) (ss : List (List ℕ)) → length es ≡ 2 ^ d → i < 2 ^ d → length ss ≡ d
      → opening_root digest e i ss ≡ root digest d es
      → (e ≡ get_or es i []) ⊎ Collision digest (opening_strings digest e i ss) (tree_strings digest d es)
  opening-shows d es e i ss n h k q =
      ⊎_elim (λ same. inl same) (λ c. inr (widen (λ x m. m) (path-within digest d es i n h) c))
      (binding digest digest-length e (get_or es i []) i ss (path digest d es i) (k ∙ sym (path-length digest es 0 d i)) (q ∙ sym (completeness digest d es i n h)))

  module _ (strings : List (List ℕ)) (apart : NoCollision digest strings) where
    -- then two lists of them have no collision
    none : {A : Type 0} (ps qs : List (List ℕ)) → Within ps strings → Within qs strings → A ⊎ Collision digest ps qs → A
    none ps qs f g (inl a) = a
    none ps qs f g (inr c) = absurd (c.differ (apart c.first c.second (f c.first c.in-first) (g c.second c.in-second) c.same))

    -- two openings of one position that lead to one root show one entry
    pub binding-apart : (e e' : List ℕ) (i : ℕ) (ss ss' : List (List ℕ)) → length ss ≡ length ss'
        → Within (opening_strings digest e i ss) strings → Within (opening_strings digest e' i ss') strings
        → opening_root digest e i ss ≡ opening_root digest e' i ss' → e ≡ e'
    binding-apart e e' i ss ss' n f g q = none _ _ f g (binding digest digest-length e e' i ss ss' n q)

    -- an opening that leads to the root of a list shows the list's entry at its position
    pub opening-shows-apart : (d : ℕ) (es : List (List ℕ)) (e : List ℕ) (i : ℕ) (ss : List (List ℕ)) → length es ≡ 2 ^ d → i < 2 ^ d → length ss ≡ d
        → Within (opening_strings digest e i ss) strings → Within (tree_strings digest d es) strings
        → opening_root digest e i ss ≡ root digest d es → e ≡ get_or es i []
    opening-shows-apart d es e i ss n h k f g q = none _ _ f g (opening-shows d es e i ss n h k q)
