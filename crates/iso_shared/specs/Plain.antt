-- What the laws of legal lists speak of: commits that a list has told of, and transactions that came from under a label.
use Rattle.std.specs.{Prelude.{◌≡◌, ℕ, ◌≤◌, ◌==◌, Bool, false, List, ◌∷◌, ◌++◌, Option, Some, None, option_map}, List.AllByRecursion}
use Rattle.iso_model.specs.{declared.access.EndReply.EndReply, declared.access.EndReply.TheVariants.{Committed, ReadOnly, Conflict}, declared.access.GroupReply.GroupReply}
use Rattle.iso_model.specs.declared.access.GroupReply.TheVariants as member
use Rattle.iso_shared.specs.{declared.entry.Entry.Entry, declared.entry.Posting.Posting, States.{State, after_all, posting_of, replies_of}}
use Rattle.iso_shared.specs.declared.entry.Entry.TheVariants as entry

-- a commit that is told of has this number at most
abbrev pub IsReplyUpTo : ℕ → EndReply → Type 0
IsReplyUpTo at (Committed k) = k ≤ at
IsReplyUpTo at ReadOnly = Unit {0}
IsReplyUpTo at (Conflict c) = Unit {0}

-- a commit of a member of a group that is told of has this number at most
abbrev pub IsMemberUpTo : ℕ → GroupReply → Type 0
IsMemberUpTo at (member.Committed k) = k ≤ at
IsMemberUpTo at member.ReadOnly = Unit {0}
IsMemberUpTo at (member.Conflict c) = Unit {0}
IsMemberUpTo at (member.Full need free) = Unit {0}
IsMemberUpTo at member.Worn = Unit {0}

-- each commit that the entry tells of has this number at most
abbrev pub CommitsUpTo : ℕ → Entry → Type 0
CommitsUpTo at (entry.End n accesses reply) = IsReplyUpTo at reply
CommitsUpTo at (entry.EndGroup ends) = AllByRecursion (IsMemberUpTo at) (replies_of ends)
CommitsUpTo at e = Unit {0}

-- whether there is a number, and it is this
abbrev pub is_number : ℕ → Option ℕ → Bool
is_number n None = false
is_number n (Some k) = k == n

-- the entry takes the transaction of this number from under its label
abbrev pub takes_out : ℕ → Entry → Bool
takes_out n (entry.Look label found) = is_number n (option_map (λ p. p.number) found)
takes_out n (entry.Sweep found) = is_number n found
takes_out n e = false

-- The list, which begins at this state, has the post of the transaction under the label, with what it then was, and no
-- entry after that took it out.
pub record WasPosted (S : State) (es : List Entry) (label : List ℕ) (p : Posting) : Type 0 where
  pub before : List Entry
  pub behind : List Entry
  pub are : es ≡ before ++ entry.Post p.number label p.accesses ∷ behind
  pub is : p ≡ posting_of (after_all S before).world p.number p.accesses
  pub kept : AllByRecursion (λ e. takes_out p.number e ≡ false) behind
