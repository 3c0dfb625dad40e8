-- Texts as they are written: the fields of a line and the lines of a text come apart again.
use mathlib.Core.Path.{◌≡◌, refl, sym, ap, ◌∙◌}
use mathlib.Core.Logic.{◌≢◌}
use mathlib.Core.List.{List, [], ◌∷◌, ◌++◌, append-nil, append_assoc}
use Prim.Native.Nat.{ℕ, ◌≤◌}
use native.Mathlib.Omega.{arith}
use borrow.Author.Tests.{eq-eqb, ne_eqb}
use lib.ListN.{length}
use Rattle.algebra.specs.Lists.{All}
use Rattle.algebra.proofs.ListLaws.{All-append, All-map}
use Rattle.lines.specs.Text.{pieces, fields, lines}
use Rattle.lines.specs.LineWriting.{write_fields, write_line}
use Rattle.roundtrip.proofs.WrittenNumbers.{Plain}

-- ---- pieces: bytes other than b, and behind them b or nothing

piece-more : (b : ℕ) (last : List (List ℕ)) (f rest : List ℕ) → All (λ x. x ≢ b) f → pieces b last (f ++ (b ∷ rest)) ≡ f ∷ pieces b last rest
unfolding pieces
piece-more b last [] rest h = rw (eq-eqb b b refl)
piece-more b last (x ∷ xs) rest h = rw (ne_eqb x b h.0, piece-more b last xs rest h.1)

field-last : (b : ℕ) (f : List ℕ) → All (λ x. x ≢ b) f → pieces b ([] ∷ []) f ≡ f ∷ []
unfolding pieces
field-last b [] h = refl
field-last b (x ∷ xs) h = rw (ne_eqb x b h.0, field-last b xs h.1)

line-last : (b x : ℕ) (xs : List ℕ) → All (λ x. x ≢ b) (x ∷ xs) → pieces b [] (x ∷ xs) ≡ (x ∷ xs) ∷ []
unfolding pieces
line-last b x [] h = rw (ne_eqb x b h.0)
line-last b x (y ∷ ys) h = rw (ne_eqb x b h.0, line-last b y ys h.1)

-- ---- fields

-- A line as it is written, without its last byte: the fields behind the first, and the line.
pub behind : List (List ℕ) → List ℕ
behind [] = []
behind (f ∷ fs) = 9 ∷ (f ++ behind fs)

abbrev pub line_text : List ℕ → List (List ℕ) → List ℕ
line_text f fs = f ++ behind fs

behind-ended : (fs : List (List ℕ)) → write_fields fs ≡ behind fs ++ (10 ∷ [])
unfolding behind write_fields
behind-ended [] = refl
behind-ended (f ∷ fs) = ap (λ (t : List ℕ). 9 ∷ t) (rw (behind-ended fs) (sym (append_assoc f (behind fs) (10 ∷ []))))

pub line-ended : (f : List ℕ) (fs : List (List ℕ)) → write_line f fs ≡ line_text f fs ++ (10 ∷ [])
line-ended f fs = rw (behind-ended fs) (sym (append_assoc f (behind fs) (10 ∷ [])))

-- Bytes without a line's end.
abbrev pub OneLine : List ℕ → Type 0
OneLine l = All (λ x. x ≢ 10) l

no-tab : (f : List ℕ) → Plain f → All (λ x. x ≢ 9) f
no-tab = All-map (λ x h. omega arith)

no_end : (f : List ℕ) → Plain f → OneLine f
no_end = All-map (λ x h. omega arith)

pub fields-written : (f : List ℕ) (fs : List (List ℕ)) → Plain f → All Plain fs → fields (line_text f fs) ≡ f ∷ fs
unfolding behind
fields-written f [] h g = ap (pieces 9 ([] ∷ [])) (append-nil f) ∙ field-last 9 f (no-tab f h)
fields-written f (e ∷ es) h g =
    piece-more 9 ([] ∷ []) f (line_text e es) (no-tab f h) ∙ ap (λ (t : List (List ℕ)). f ∷ t) (fields-written e es g.0 g.1)

pub one_line : (f : List ℕ) (fs : List (List ℕ)) → Plain f → All Plain fs → OneLine (line_text f fs)
unfolding behind
one_line f [] h g = All-append (λ x. x ≢ 10) f [] (no_end f h) tt
one_line f (e ∷ es) h g = All-append (λ x. x ≢ 10) f (9 ∷ line_text e es) (no_end f h) (omega arith, one_line e es g.0 g.1)

-- ---- lines

-- Lines, byte 10 behind each.
unfoldable pub text_of : List (List ℕ) → List ℕ
text_of [] = []
text_of (l ∷ ls) = l ++ (10 ∷ text_of ls)

pub text_of-append : (ls ms : List (List ℕ)) → text_of (ls ++ ms) ≡ text_of ls ++ text_of ms
unfolding text_of
text_of-append [] ms = refl
text_of-append (l ∷ ls) ms = rw (text_of-append ls ms) (sym (append_assoc l (10 ∷ text_of ls) (text_of ms)))

pub line-more : (f : List ℕ) (fs : List (List ℕ)) (rest : List ℕ) → write_line f fs ++ rest ≡ line_text f fs ++ (10 ∷ rest)
line-more f fs rest = rw (line-ended f fs) (append_assoc (line_text f fs) (10 ∷ []) rest)

pub lines-front : (ls : List (List ℕ)) (rest : List ℕ) → All OneLine ls → lines (text_of ls ++ rest) ≡ ls ++ lines rest
unfolding text_of
lines-front [] rest h = refl
lines-front (l ∷ ls) rest h =
    ap lines (append_assoc l (10 ∷ text_of ls) rest) ∙ piece-more 10 [] l (text_of ls ++ rest) h.0 ∙ ap (λ (t : List (List ℕ)). l ∷ t) (lines-front ls rest h.1)

pub ended-line : (l : List ℕ) → OneLine l → lines (l ++ (10 ∷ [])) ≡ l ∷ []
unfolding pieces
ended-line l h = piece-more 10 [] l [] h

pub last_line : (l : List ℕ) → 1 ≤ length l → OneLine l → lines l ≡ l ∷ []
last_line [] s h = absurd (omega arith)
last_line (x ∷ xs) s h = line-last 10 x xs h
