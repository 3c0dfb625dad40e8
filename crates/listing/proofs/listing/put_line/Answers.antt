-- The four parts make the line.
use Rattle.listing.proofs.ListedLines.{line-put}
use Rattle.listing.proofs.listing.put_line.Goals as goal

pub returns-clause-line : goal.returns-clause-line
returns-clause-line c = line-put c.args.text.now.bytes c.args.word.now c.args.x c.push_str.ensures.bytes c.push_str-2.ensures.bytes c.put_number.ensures.digits c.push_str-3.ensures.bytes
