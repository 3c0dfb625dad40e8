use Rattle.std.proofs.Common.{refl, ◌∙◌, arith, rules}
use Rattle.std.proofs.lemmas.Slice.{overwrites}
use Rattle.hash.specs.Sha256.{bytes}
use Rattle.hash.proofs.Bytes.{in_bytes-4, word_more, words-all}
use Rattle.hash.proofs.message.bytes.Goals as goal

pub loop-j-init : goal.loop-j-init
unfolding bytes
loop-j-init c = (refl, refl)

pub loop-j-preserved : goal.loop-j-preserved
loop-j-preserved c = (
  search (rules, overwrites),
  word_more c.args.h c.loop-j.d c.loop-j.j c.loop-j.invariant.1 c.copy_from_slice.new.self _ (c.copy_from_slice.ensures.after ∙ c.to_be_bytes.ensures ∙ in_bytes-4 _) (omega arith),
)

pub returns : goal.returns
returns c = words-all c.args.h c.loop-j.d c.loop-j.j c.loop-j.invariant.1 (omega arith) c.loop-j.invariant.0
