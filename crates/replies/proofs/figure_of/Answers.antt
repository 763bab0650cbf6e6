-- `replies::figure_of` meets its contract: each case has its own figures.
use Rattle.replies.proofs.figure_of.Goals as goal

pub returns-in-LeafCount : goal.returns-in-LeafCount
returns-in-LeafCount c = rw c.in-LeafCount.is

pub returns-in-InputLength : goal.returns-in-InputLength
returns-in-InputLength c = rw c.in-InputLength.is

pub returns-in-OutputRoom : goal.returns-in-OutputRoom
returns-in-OutputRoom c = rw c.in-OutputRoom.is

pub returns-in-Diagonal : goal.returns-in-Diagonal
returns-in-Diagonal c = rw c.in-Diagonal.is

pub returns-in-Halves : goal.returns-in-Halves
returns-in-Halves c = rw c.in-Halves.is c.two_figures.ensures

pub returns-in-NoTree : goal.returns-in-NoTree
returns-in-NoTree c = rw c.in-NoTree.is

pub returns-in-Child : goal.returns-in-Child
returns-in-Child c = rw c.in-Child.is

pub returns-in-NamedBefore : goal.returns-in-NamedBefore
returns-in-NamedBefore c = rw c.in-NamedBefore.is

pub returns-in-Question : goal.returns-in-Question
returns-in-Question c = rw c.in-Question.is

pub returns-in-Record : goal.returns-in-Record
returns-in-Record c = rw c.in-Record.is

pub returns-in-PairingCode : goal.returns-in-PairingCode
returns-in-PairingCode c = rw c.in-PairingCode.is

pub returns-in-Proposal : goal.returns-in-Proposal
returns-in-Proposal c = rw c.in-Proposal.is

pub returns-in-SheetEnds : goal.returns-in-SheetEnds
returns-in-SheetEnds c = rw c.in-SheetEnds.is

pub returns-in-SheetLength : goal.returns-in-SheetLength
returns-in-SheetLength c = rw c.in-SheetLength.is

pub returns-in-Name : goal.returns-in-Name
returns-in-Name c = rw c.in-Name.is

pub returns-in-SameName : goal.returns-in-SameName
returns-in-SameName c = rw c.in-SameName.is

pub returns-in-Grammar : goal.returns-in-Grammar
returns-in-Grammar c = rw c.in-Grammar.is

pub returns-in-NotBinary : goal.returns-in-NotBinary
returns-in-NotBinary c = rw c.in-NotBinary.is

pub returns-in-Unmatched : goal.returns-in-Unmatched
returns-in-Unmatched c = rw c.in-Unmatched.is

pub returns-in-NotOwn : goal.returns-in-NotOwn
returns-in-NotOwn c = rw c.in-NotOwn.is
