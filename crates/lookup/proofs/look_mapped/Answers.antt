-- `look_mapped` is right: past the map it is 8, and the number that stands for the entry tells whether
-- the byte is found in the frame of that number or refused.
use borrow.Author.Rules.{rules}
use Rattle.lookup.proofs.Cases.{mapped_8, mapped_found, mapped_refused}
use Rattle.lookup.proofs.look_mapped.Goals as goal

pub returns-then-map-p : goal.returns-then-map-p
returns-then-map-p c = search (rules, mapped_8)

pub returns-then-frames-f : goal.returns-then-frames-f
returns-then-frames-f c = search (rules, mapped_refused)

pub returns : goal.returns
returns c = search (rules, mapped_found)
