-- The field of p elements: its instance, with SHA-256, leaves of a position and the four bytes of a number, and the built-in points of the
-- code; and the names that the contracts of the calls use, each a definition of `Instance`, `Buffers`, `Sizes`, `Calls` or `Verify` for this instance.
use Rattle.std.specs.Prelude.{Bool, true, ◌&&◌, List, map, ℕ, ◌*◌, leb, ltb}
use Rattle.numbers.specs.Numbers.{bytes4, bytes}
use Rattle.field.specs.BabyBear.{baby_bear, p, F, val, ofℕ}
use Rattle.hash.specs.Sha256.{block_count, digest}
use Rattle.tree.specs.Entry.{entry}
use Rattle.code.specs.Points.{points}
use Rattle.theory.specs.R1cs.{Entry, Circuit}
use Rattle.theory.specs.Items.{Hash, Item}
use Rattle.theory.specs.Folds.{Opening, Shown}
use Rattle.theory.specs.Checks.{Check}
use Rattle.theory.specs.Instance.{Format, Instance}
use Rattle.theory.specs.Buffers.{number_at}
use Rattle.theory.specs.Results.{Encoded, Cast, Quotient, Folded, Opened, Interleaved, Verified}

-- ---- the instance

-- Check 5: a challenge is a number, from l on and below p.
abbrev pub challenge_fits : ℕ → ℕ → Bool
challenge_fits l a = leb l a && ltb a p

-- An element is one number, below p.
abbrev pub fp_format : Format F
fp_format = record {
  size = λ n. 4 * n;
  at = λ b j. ofℕ (number_at b j);
  below = λ b j. ltb (number_at b j) p;
  bytes_of = λ es. bytes (map val es);
  of_number = ofℕ;
  Challenge = ℕ;
  sized = λ challenge. true;
  permitted = challenge_fits;
  element = ofℕ;
}

abbrev pub sha : Hash F
sha = record { digest = digest; blocks = block_count; entry = λ i v. entry i (bytes4 (val v)) }

abbrev pub fp : Instance
fp = record { field = baby_bear; format = fp_format; hash = sha; built_in_points = points }

-- ---- names for this instance

-- Element j of a buffer, and the bytes of a list of elements.
abbrev pub element_at : List ℕ → ℕ → F
element_at = fp_format.at

abbrev pub element_bytes : List F → List ℕ
element_bytes = fp_format.bytes_of

abbrev pub points_of : ℕ → List ℕ → List F
points_of = Rattle.theory.specs.Instance.points_of fp

abbrev pub codeword_of : ℕ → List ℕ → List F → List F
codeword_of = Rattle.theory.specs.Instance.codeword_of fp

abbrev pub witness_root : ℕ → List ℕ → List F → List ℕ
witness_root = Rattle.theory.specs.Instance.witness_root fp

abbrev pub elements : ℕ → List ℕ → List F
elements = Rattle.theory.specs.Buffers.elements fp

abbrev pub entry_at : List ℕ → ℕ → Entry F
entry_at = Rattle.theory.specs.Buffers.entry_at fp

abbrev pub matrix : List ℕ → List (Entry F)
matrix = Rattle.theory.specs.Buffers.matrix fp

abbrev pub circuit : List ℕ → List ℕ → List ℕ → Circuit F
circuit = Rattle.theory.specs.Buffers.circuit fp

abbrev pub item_front : ℕ → ℕ → ℕ
item_front = Rattle.theory.specs.Buffers.item_front fp

abbrev pub item_size : ℕ → ℕ → ℕ
item_size = Rattle.theory.specs.Buffers.item_size fp

abbrev pub read_item : ℕ → ℕ → List ℕ → Item F
read_item = Rattle.theory.specs.Buffers.read_item fp

abbrev pub item_bytes : Item F → List ℕ
item_bytes = Rattle.theory.specs.Buffers.item_bytes fp

abbrev pub item_part : ℕ → ℕ → List ℕ → ℕ → List ℕ
item_part = Rattle.theory.specs.Buffers.item_part fp

abbrev pub read_items : ℕ → ℕ → ℕ → List ℕ → List (Item F)
read_items = Rattle.theory.specs.Buffers.read_items fp

abbrev pub witness_part : ℕ → List ℕ → ℕ → List ℕ
witness_part = Rattle.theory.specs.Buffers.witness_part fp

abbrev pub read_witness : ℕ → List ℕ → ℕ → List F
read_witness = Rattle.theory.specs.Buffers.read_witness fp

abbrev pub in_order : ℕ → ℕ → ℕ → (ℕ → List ℕ) → List ℕ
in_order = Rattle.theory.specs.Buffers.in_order fp

abbrev pub item_below : ℕ → ℕ → List ℕ → Bool
item_below = Rattle.theory.specs.Sizes.item_below fp

abbrev pub items_below : ℕ → ℕ → ℕ → List ℕ → Bool
items_below = Rattle.theory.specs.Sizes.items_below fp

abbrev pub opened_below : ℕ → ℕ → List ℕ → Bool
opened_below = Rattle.theory.specs.Sizes.opened_below fp

abbrev pub same_element : F → F → Bool
same_element = Rattle.theory.specs.Instance.same_element fp

abbrev pub same_elements : List F → List F → Bool
same_elements = Rattle.theory.specs.Instance.same_elements fp

abbrev pub encode_fits : ℕ → List ℕ → List ℕ → List ℕ → List ℕ → Bool
encode_fits = Rattle.theory.specs.Calls.encode_fits fp

abbrev pub encode_checks : ℕ → List ℕ → List ℕ → List ℕ → List ℕ → List Check
encode_checks = Rattle.theory.specs.Calls.encode_checks fp

abbrev pub encode : ℕ → List ℕ → List ℕ → List ℕ → List ℕ → Encoded
encode = Rattle.theory.specs.Calls.encode fp

abbrev pub matches : ℕ → List ℕ → Item F → List F → Bool
matches = Rattle.theory.specs.Calls.matches fp

abbrev pub holds : Circuit F → Item F → List F → Bool
holds = Rattle.theory.specs.Calls.holds fp

abbrev pub cast_item : ℕ → ℕ → ℕ → List ℕ → List ℕ → List ℕ → List ℕ → Item F
cast_item = Rattle.theory.specs.Calls.cast_item fp

abbrev pub cast_fits : ℕ → ℕ → ℕ → List ℕ → List ℕ → List ℕ → List ℕ → List ℕ → List ℕ → List ℕ → List ℕ → Bool
cast_fits = Rattle.theory.specs.Calls.cast_fits fp

abbrev pub cast_checks : ℕ → ℕ → ℕ → List ℕ → List ℕ → List ℕ → List ℕ → List ℕ → List ℕ → List ℕ → List ℕ → List Check
cast_checks = Rattle.theory.specs.Calls.cast_checks fp

abbrev pub cast : ℕ → ℕ → ℕ → List ℕ → List ℕ → List ℕ → List ℕ → List ℕ → List ℕ → List ℕ → List ℕ → Cast
cast = Rattle.theory.specs.Calls.cast fp

abbrev pub list_fits : ℕ → ℕ → ℕ → ℕ → List ℕ → List ℕ → List ℕ → List ℕ → List ℕ → List ℕ → Bool
list_fits = Rattle.theory.specs.Calls.list_fits fp

abbrev pub list_below : ℕ → ℕ → ℕ → List ℕ → List ℕ → List ℕ → List ℕ → List ℕ → Bool
list_below = Rattle.theory.specs.Calls.list_below fp

abbrev pub list_checks : ℕ → ℕ → ℕ → ℕ → List ℕ → List ℕ → List ℕ → List ℕ → List ℕ → List ℕ → List Check
list_checks = Rattle.theory.specs.Calls.list_checks fp

abbrev pub all_match : ℕ → ℕ → ℕ → ℕ → List ℕ → List ℕ → List ℕ → Bool
all_match = Rattle.theory.specs.Calls.all_match fp

abbrev pub all_hold : ℕ → ℕ → ℕ → ℕ → List ℕ → List ℕ → List ℕ → List ℕ → List ℕ → Bool
all_hold = Rattle.theory.specs.Calls.all_hold fp

abbrev pub claim_checks : ℕ → ℕ → ℕ → ℕ → List ℕ → List ℕ → List ℕ → List ℕ → List ℕ → List ℕ → List Check
claim_checks = Rattle.theory.specs.Calls.claim_checks fp

abbrev pub list_quotient : ℕ → ℕ → ℕ → ℕ → List ℕ → List ℕ → List ℕ → List ℕ → List ℕ → List F
list_quotient = Rattle.theory.specs.Calls.list_quotient fp

abbrev pub quotient_fits : ℕ → ℕ → ℕ → ℕ → List ℕ → List ℕ → List ℕ → List ℕ → List ℕ → List ℕ → List ℕ → Bool
quotient_fits = Rattle.theory.specs.Calls.quotient_fits fp

abbrev pub quotient_checks : ℕ → ℕ → ℕ → ℕ → List ℕ → List ℕ → List ℕ → List ℕ → List ℕ → List ℕ → List ℕ → List Check
quotient_checks = Rattle.theory.specs.Calls.quotient_checks fp

abbrev pub quotient : ℕ → ℕ → ℕ → ℕ → List ℕ → List ℕ → List ℕ → List ℕ → List ℕ → List ℕ → List ℕ → Quotient
quotient = Rattle.theory.specs.Calls.quotient fp

abbrev pub new_witness : ℕ → ℕ → F → List ℕ → List F
new_witness = Rattle.theory.specs.Calls.new_witness fp

abbrev pub new_item : ℕ → ℕ → ℕ → ℕ → F → List ℕ → List ℕ → List ℕ → List F → Item F
new_item = Rattle.theory.specs.Calls.new_item fp

abbrev pub fold_outputs_fit : ℕ → ℕ → ℕ → ℕ → List ℕ → List ℕ → List ℕ → Bool
fold_outputs_fit = Rattle.theory.specs.Calls.fold_outputs_fit fp

abbrev pub fold_fits : ℕ → ℕ → ℕ → ℕ → ℕ → List ℕ → List ℕ → List ℕ → List ℕ → List ℕ → List ℕ → List ℕ → List ℕ → List ℕ → Bool
fold_fits = Rattle.theory.specs.Calls.fold_fits fp

abbrev pub fold_checks : ℕ → ℕ → ℕ → ℕ → ℕ → List ℕ → List ℕ → List ℕ → List ℕ → List ℕ → List ℕ → List ℕ → List ℕ → List ℕ → List Check
fold_checks = Rattle.theory.specs.Calls.fold_checks fp

abbrev pub fold : ℕ → ℕ → ℕ → ℕ → ℕ → List ℕ → List ℕ → List ℕ → List ℕ → List ℕ → List ℕ → List ℕ → List ℕ → List ℕ → Folded
fold = Rattle.theory.specs.Calls.fold fp

abbrev pub opening_of : ℕ → List ℕ → List F → ℕ → Opening F
opening_of = Rattle.theory.specs.Calls.opening_of fp

abbrev pub openings_of : ℕ → ℕ → List ℕ → List F → List ℕ → List ℕ
openings_of = Rattle.theory.specs.Calls.openings_of fp

abbrev pub open_fits : ℕ → ℕ → List ℕ → List ℕ → List ℕ → List ℕ → Bool
open_fits = Rattle.theory.specs.Calls.open_fits fp

abbrev pub open_checks : ℕ → ℕ → List ℕ → List ℕ → List ℕ → List ℕ → List Check
open_checks = Rattle.theory.specs.Calls.open_checks fp

abbrev pub «open» : ℕ → ℕ → List ℕ → List ℕ → List ℕ → List ℕ → Opened
«open» = Rattle.theory.specs.Calls.«open» fp

abbrev pub witness_openings : ℕ → ℕ → List ℕ → ℕ → List ℕ
witness_openings = Rattle.theory.specs.Calls.witness_openings fp

abbrev pub interleave_fits : ℕ → ℕ → ℕ → List ℕ → List ℕ → Bool
interleave_fits = Rattle.theory.specs.Calls.interleave_fits fp

abbrev pub interleave_checks : ℕ → ℕ → ℕ → List ℕ → List ℕ → List Check
interleave_checks = Rattle.theory.specs.Calls.interleave_checks fp

abbrev pub interleave : ℕ → ℕ → ℕ → List ℕ → List ℕ → Interleaved
interleave = Rattle.theory.specs.Calls.interleave fp

abbrev pub read_shown : ℕ → ℕ → ℕ → ℕ → ℕ → ℕ → List ℕ → List ℕ → List ℕ → Shown F
read_shown = Rattle.theory.specs.Verify.read_shown fp

abbrev pub combines : ℕ → ℕ → List (Item F) → List F → Shown F → Bool
combines = Rattle.theory.specs.Verify.combines fp

abbrev pub openings_lead : List (Item F) → Shown F → Bool
openings_lead = Rattle.theory.specs.Verify.openings_lead fp

abbrev pub values_combine : List (Item F) → Shown F → Bool
values_combine = Rattle.theory.specs.Verify.values_combine fp

abbrev pub verify_fits : ℕ → ℕ → ℕ → ℕ → ℕ → ℕ → List ℕ → List ℕ → List ℕ → List ℕ → List ℕ → Bool
verify_fits = Rattle.theory.specs.Verify.verify_fits fp

abbrev pub verify_checks : ℕ → ℕ → ℕ → ℕ → ℕ → ℕ → List ℕ → List ℕ → List ℕ → List ℕ → List ℕ → List Check
verify_checks = Rattle.theory.specs.Verify.verify_checks fp

abbrev pub verify : ℕ → ℕ → ℕ → ℕ → ℕ → ℕ → List ℕ → List ℕ → List ℕ → List ℕ → List ℕ → Verified
verify = Rattle.theory.specs.Verify.verify fp

abbrev pub decide_fits : ℕ → ℕ → ℕ → List ℕ → List ℕ → List ℕ → List ℕ → List ℕ → List ℕ → Bool
decide_fits = Rattle.theory.specs.Calls.decide_fits fp

abbrev pub decide_checks : ℕ → ℕ → ℕ → List ℕ → List ℕ → List ℕ → List ℕ → List ℕ → List ℕ → List Check
decide_checks = Rattle.theory.specs.Calls.decide_checks fp

abbrev pub decide : ℕ → ℕ → ℕ → List ℕ → List ℕ → List ℕ → List ℕ → List ℕ → List ℕ → ℕ
decide = Rattle.theory.specs.Calls.decide fp
