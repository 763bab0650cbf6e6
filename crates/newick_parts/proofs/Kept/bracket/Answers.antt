-- `Kept::bracket` meets its contract: one lemma for each kind of byte.
use Rattle.newick_parts.proofs.Keeping.{came_opening, comma_ends, came_comma, closing_ends, came_closing}
use Rattle.newick_parts.proofs.Keeping.{came_another}
use Rattle.newick_parts.proofs.Kept.bracket.Goals as goal

pub returns-in-40 : goal.returns-in-40
returns-in-40 c = came_opening c.requires.count c.requires.shallow c.in-40.is

pub comma-requires : goal.comma-requires
comma-requires c = comma_ends c.in-44.is c.requires

pub returns-in-44 : goal.returns-in-44
returns-in-44 c = came_comma c.in-44.is c.comma.ensures

pub close-requires : goal.close-requires
close-requires c = closing_ends c.in-41.is c.requires

pub returns-in-41 : goal.returns-in-41
returns-in-41 c = came_closing c.in-41.is c.close.ensures

pub returns-in_default : goal.returns-in_default
returns-in_default c = search came_another
