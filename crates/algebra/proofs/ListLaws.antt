-- Laws of lists that are made from a function of the index, of properties of every member, and of pairwise different members.
-- Assumes nothing.
use mathlib.Core.Path.{◌≡◌, refl, sym, ◌∙◌, ap, ap₂, subst}
use mathlib.Core.Logic.{◌≢◌, ⊎_elim}
use mathlib.Core.List.Memᴰ
use mathlib.Core.List.{List, [], ◌∷◌, ◌++◌, map, Memᴰ, append-nil, append_assoc}
use Prim.Native.Nat.{ℕ, zero, suc, ◌+◌, ◌*◌, ◌≤◌, ◌<◌}
use native.Mathlib.Decide.{ℕ_discrete}
use native.Mathlib.Nat.{suc-mul, zero-mul, zero-add, suc-add}
use native.Mathlib.Omega.{arith}
use lib.ListN.{length, get_or, length-append, get_or-append}
use lib.Seq.{get_or-append-add}
use Rattle.algebra.specs.Lists.{All, Distinct, Differ, build, concat_to}

-- ---- the list of f 0 to f (n - 1)
pub length-build : {A : Type 0} (n : ℕ) (f : ℕ → A) → length (build n f) ≡ n
length-build zero f = refl
length-build (suc n) f = ap suc (length-build n (λ i. f (suc i)))

pub get_or-build : {A : Type 0} (n : ℕ) (f : ℕ → A) (i : ℕ) (d : A) → i < n → get_or (build n f) i d ≡ f i
get_or-build zero f i d h = absurd (omega arith)
get_or-build (suc n) f zero d h = refl
get_or-build (suc n) f (suc i) d h = get_or-build n (λ j. f (suc j)) i d (omega arith)

pub build-cong : {A : Type 0} (n : ℕ) (f g : ℕ → A) → ((i : ℕ) → i < n → f i ≡ g i) → build n f ≡ build n g
build-cong zero f g h = refl
build-cong {A} (suc n) f g h = ap₂ {C = List A} ◌∷◌ (h 0 (omega arith)) (build-cong n (λ i. f (suc i)) (λ i. g (suc i)) (λ i l. h (suc i) (omega arith)))

-- In two parts.
pub build-append : {A : Type 0} (m n : ℕ) (f : ℕ → A) → build (m + n) f ≡ build m f ++ build n (λ i. f (m + i))
build-append zero n f = ap (λ (k : ℕ). build k f) (zero-add n) ∙ build-cong n f (λ i. f (0 + i)) (λ i h. ap f (sym (zero-add i)))
build-append {A} (suc m) n f =
    ap (λ (k : ℕ). build k f) (suc-add m n)
    ∙ ap (λ (t : List A). f 0 ∷ t) (build-append m n (λ i. f (suc i))
    ∙ ap (λ (t : List A). build m (λ i. f (suc i)) ++ t) (build-cong n (λ i. f (suc (m + i))) (λ i. f (suc m + i)) (λ i h. ap f (sym (suc-add m i)))))

pub build-get_or : {A : Type 0} (l : List A) (n : ℕ) (d : A) → length l ≡ n → build n (λ i. get_or l i d) ≡ l
build-get_or [] zero d h = refl
build-get_or [] (suc n) d h = absurd (omega arith)
build-get_or (a ∷ l) zero d h = absurd (omega arith)
build-get_or {A} (a ∷ l) (suc n) d h = ap (λ (t : List A). a ∷ t) (build-get_or l n d (omega arith))

pub map-build : {A B : Type 0} (g : A → B) (n : ℕ) (f : ℕ → A) → map g (build n f) ≡ build n (λ i. g (f i))
map-build g zero f = refl
map-build {A} {B} g (suc n) f = ap (λ (t : List B). g (f 0) ∷ t) (map-build g n (λ i. f (suc i)))

pub get_or-map : {A B : Type 0} (f : A → B) (l : List A) (i : ℕ) (d : A) (e : B) → i < length l → get_or (map f l) i e ≡ f (get_or l i d)
get_or-map f [] i d e h = absurd (omega arith)
get_or-map f (a ∷ l) zero d e h = refl
get_or-map f (a ∷ l) (suc i) d e h = get_or-map f l i d e (omega arith)

-- ---- lists one after the other
pub mem-concat_to : {A : Type 0} {a : A} (n : ℕ) (f : ℕ → List A) (i : ℕ) → i < n → Memᴰ a (f i) → Memᴰ a (concat_to n f)
mem-concat_to zero f i h m = absurd (omega arith)
mem-concat_to (suc n) f zero h m = Memᴰ.append_left (concat_to n (λ j. f (suc j))) m
mem-concat_to (suc n) f (suc i) h m = Memᴰ.append_right (f 0) (mem-concat_to n (λ j. f (suc j)) i (omega arith) m)

pub concat_to-cong : {A : Type 0} (n : ℕ) (f g : ℕ → List A) → ((i : ℕ) → i < n → f i ≡ g i) → concat_to n f ≡ concat_to n g
concat_to-cong zero f g h = refl
concat_to-cong (suc n) f g h = ap₂ ◌++◌ (h 0 (omega arith)) (concat_to-cong n (λ i. f (suc i)) (λ i. g (suc i)) (λ i l. h (suc i) (omega arith)))

-- The last one, and lists that are empty from j on.
pub concat_to-last : {A : Type 0} (n : ℕ) (f : ℕ → List A) → concat_to (suc n) f ≡ concat_to n f ++ f n
concat_to-last zero f = append-nil (f 0)
concat_to-last {A} (suc n) f =
    ap (λ (t : List A). f 0 ++ t) (concat_to-last n (λ i. f (suc i))) ∙ sym (append_assoc (f 0) (concat_to n (λ i. f (suc i))) (f (suc n)))

pub concat_to-stop : {A : Type 0} (n j : ℕ) (f : ℕ → List A) → j ≤ n → ((i : ℕ) → j ≤ i → i < n → f i ≡ []) → concat_to n f ≡ concat_to j f
concat_to-stop zero j f l h = let e : 0 ≡ j = omega arith in ap (λ (k : ℕ). concat_to k f) e
concat_to-stop {A} (suc n) j f l h = go (ℕ_discrete (suc n) j) (λ less. concat_to-stop n j f less (λ i g k. h i g (omega arith)))
  where
    go : Dec (suc n ≡ j) → (j ≤ n → concat_to n f ≡ concat_to j f) → concat_to (suc n) f ≡ concat_to j f
    go (yes e) ih = ap (λ (k : ℕ). concat_to k f) e
    go (no e) ih =
        concat_to-last n f ∙ ap (λ (t : List A). concat_to n f ++ t) (h n (omega arith) (omega arith)) ∙ append-nil (concat_to n f) ∙ ih (omega arith)

pub length-concat_to : {A : Type 0} (n width : ℕ) (f : ℕ → List A) → ((q : ℕ) → q < n → length (f q) ≡ width) → length (concat_to n f) ≡ n * width
length-concat_to zero width f h = sym (zero-mul width)
length-concat_to (suc n) width f h = length-append (f 0) (concat_to n (λ q. f (suc q)))
    ∙ omega (arith, h 0 (omega arith), length-concat_to n width (λ q. f (suc q)) (λ q l. h (suc q) (omega arith)), suc-mul n width)

pub get_or-concat_to : {A : Type 0} (n width : ℕ) (f : ℕ → List A) → ((q : ℕ) → q < n → length (f q) ≡ width) → (q i : ℕ) (d : A) → q < n → i < width
    → get_or (concat_to n f) (q * width + i) d ≡ get_or (f q) i d
get_or-concat_to zero width f h q i d l k = absurd (omega arith)
get_or-concat_to (suc n) width f h zero i d l k = ap (λ (j : ℕ). get_or (f 0 ++ concat_to n (λ q. f (suc q))) j d) (ap (λ (j : ℕ). j + i) (zero-mul width) ∙ zero-add i)
    ∙ get_or-append (f 0) (concat_to n (λ q. f (suc q))) d i (omega (arith, h 0 (omega arith)))
get_or-concat_to (suc n) width f h (suc q) i d l k = ap (λ (j : ℕ). get_or (f 0 ++ concat_to n (λ s. f (suc s))) j d) (omega (arith, h 0 (omega arith), suc-mul q width))
    ∙ get_or-append-add (f 0) (concat_to n (λ s. f (suc s))) (q * width + i) d
    ∙ get_or-concat_to n width (λ s. f (suc s)) (λ s g. h (suc s) (omega arith)) q i d (omega arith) k

-- ---- a property of every member
pub All-map : {A : Type 0} {P Q : A → Type 0} → ((x : A) → P x → Q x) → (l : List A) → All P l → All Q l
All-map f [] h = tt
All-map f (a ∷ l) h = (f a h.0, All-map f l h.1)

pub All-append : {A : Type 0} (P : A → Type 0) (xs ys : List A) → All P xs → All P ys → All P (xs ++ ys)
All-append P [] ys h g = g
All-append P (x ∷ xs) ys h g = (h.0, All-append P xs ys h.1 g)

pub All-build : {A : Type 0} (P : A → Type 0) (n : ℕ) (f : ℕ → A) → ((i : ℕ) → i < n → P (f i)) → All P (build n f)
All-build P zero f h = tt
All-build P (suc n) f h = (h 0 (omega arith), All-build P n (λ i. f (suc i)) (λ i l. h (suc i) (omega arith)))

pub All-member : {A : Type 0} (P : A → Type 0) {a : A} (l : List A) → All P l → Memᴰ a l → P a
All-member {A} P {a} [] h m = absurd (Memᴰ.not-nil m)
All-member {A} P {a} (b ∷ l) h m = go (All-member P l h.1)
  where
    go : (Memᴰ a l → P a) → P a
    go ih = ⊎_elim (λ (e : a ≡ b). subst P (sym e) h.0) ih (Memᴰ.cases_cons m)

pub All-from : {A : Type 0} {P : A → Type 0} (l : List A) → ((a : A) → Memᴰ a l → P a) → All P l
All-from [] h = tt
All-from (b ∷ l) h = (h b (Memᴰ.head refl), All-from l (λ a m. h a (Memᴰ.tail m)))

-- ---- members and indices
pub mem-get_or : {A : Type 0} (l : List A) (i : ℕ) (d : A) → i < length l → Memᴰ (get_or l i d) l
mem-get_or [] i d h = absurd (omega arith)
mem-get_or (a ∷ l) zero d h = Memᴰ.head refl
mem-get_or (a ∷ l) (suc i) d h = Memᴰ.tail (mem-get_or l i d (omega arith))

-- Lists mapped alike are equal where the functions agree on each member.
pub map-agree : {A B : Type 0} (f g : A → B) (l : List A) → ((a : A) → Memᴰ a l → f a ≡ g a) → map f l ≡ map g l
map-agree f g [] h = refl
map-agree {A} {B} f g (a ∷ l) h = ap₂ {C = List B} ◌∷◌ (h a (Memᴰ.head refl)) (map-agree f g l (λ b m. h b (Memᴰ.tail m)))

pub map-member : {A B : Type 0} (f g : A → B) (l : List A) → map f l ≡ map g l → (a : A) → Memᴰ a l → f a ≡ g a
map-member f g [] e a m = absurd (Memᴰ.not-nil m)
map-member {A} {B} f g (b ∷ l) e a m = go (map-member f g l (cc) a)
  where
    head : f b ≡ g b
    head = cc

    go : (Memᴰ a l → f a ≡ g a) → f a ≡ g a
    go ih = ⊎_elim (λ (h : a ≡ b). ap f h ∙ head ∙ ap g (sym h)) ih (Memᴰ.cases_cons m)

-- ---- members that are pairwise different
-- Two different indices of a list of pairwise different members have different members.
pub distinct-get_or : {A : Type 0} (l : List A) (i j : ℕ) (d : A) → Distinct l → i < length l → j < length l → get_or l i d ≡ get_or l j d → i ≡ j
distinct-get_or [] i j d h p q e = absurd (omega arith)
distinct-get_or (a ∷ l) zero zero d h p q e = refl
distinct-get_or (a ∷ l) zero (suc j) d h p q e = absurd (All-member (λ b. b ≢ a) l h.0 (mem-get_or l j d (omega arith)) (sym e))
distinct-get_or (a ∷ l) (suc i) zero d h p q e = absurd (All-member (λ b. b ≢ a) l h.0 (mem-get_or l i d (omega arith)) e)
distinct-get_or (a ∷ l) (suc i) (suc j) d h p q e = ap suc (distinct-get_or l i j d h.1 (omega arith) (omega arith) e)

-- Pairwise different values make a list of pairwise different members.
pub distinct-differ : {A : Type 0} (n : ℕ) (f : ℕ → A) → Differ n f → Distinct (build n f)
distinct-differ zero f h = tt
distinct-differ (suc n) f h = (
  All-build (λ b. b ≢ f 0) n (λ i. f (suc i)) (λ i l e. h 0 (suc i) (omega arith) (omega arith) (sym e)),
  distinct-differ n (λ i. f (suc i)) (λ i j l k. h (suc i) (suc j) (omega arith) (omega arith)),
)

-- A function that tells the numbers below n apart makes a list of pairwise different members.
pub distinct-build : {A : Type 0} (n : ℕ) (f : ℕ → A) → ((i j : ℕ) → i < n → j < n → f i ≡ f j → i ≡ j) → Distinct (build n f)
distinct-build n f h = distinct-differ n f (λ i j l k e. let t : i ≡ j = h i j (omega arith) k e in omega arith)

-- Different members have different images under a function that tells them apart.
pub distinct-map : {A B : Type 0} {P : A → Type 0} (f : A → B) → ((a b : A) → P a → P b → f a ≡ f b → a ≡ b) → (l : List A) → All P l → Distinct l → Distinct (map f l)
distinct-map f inj [] h d = tt
distinct-map {A} {B} {P} f inj (a ∷ l) h d = (others l h.1 d.0, distinct-map f inj l h.1 d.1)
  where
    others : (s : List A) → All P s → All (λ b. b ≢ a) s → All (λ c. c ≢ f a) (map f s)
    others [] k n = tt
    others (b ∷ s) k n = ((λ e. n.0 (inj b a k.0 h.0 e)), others s k.1 n.1)
