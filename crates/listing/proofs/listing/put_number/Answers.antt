-- What `itoa` prints is the number in decimal.
use mathlib.Core.Path.{◌≡◌, ap, ◌∙◌}
use mathlib.Core.List.{List, ◌++◌}
use Prim.Native.Nat.{ℕ}
use native.Mathlib.Omega.{arith}
use lib.ListN.{length, length-append}
use Rattle.lines.specs.LineWriting.{write_number}
use Rattle.listing.proofs.DigitLaws.{number-printed, write-few, write_two}
use Rattle.listing.proofs.listing.put_number.Goals as goal

pub returns : goal.returns
returns c =
    let digits : c.push_str.new.self.bytes ≡ c.args.text.now.bytes ++ write_number c.args.x = c.push_str.ensures.bytes ∙ ap (λ (l : List ℕ). c.args.text.now.bytes ++ l) (c.format.ensures.text ∙ number-printed c.args.x (omega arith)) in
    let long = ap length digits ∙ length-append c.args.text.now.bytes (write_number c.args.x) in
    record {
      digits = digits;
      few = omega (arith, long, write-few c.args.x (omega arith));
      two = λ h. omega (arith, long, write_two c.args.x h);
    }
