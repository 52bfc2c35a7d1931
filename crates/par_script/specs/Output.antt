-- The text of clients that run concurrently.
use Rattle.std.specs.{Prelude.{◌≡◌, ℕ, ◌<◌, ◌≤◌, List, [], ◌∷◌, ◌++◌, Option, Some, None, codes, decimal, flat_map, length, map, take}, List.concat, List.Sorted.{IsPermutation, IsNonDecreasingBy}}
use Rattle.iso_model.specs.declared.access.GroupReply.{GroupReply}
use Rattle.iso_model.specs.declared.access.GroupReply.TheVariants as member
use Rattle.script_model.specs.{declared.script.Reply.Reply, declared.script.Reply.TheVariants.{Committed, Grouped}, Text.reply_line}
use Rattle.par_script.specs.{declared.commit_line.CommitLine.CommitLine, declared.part.Part.Part}

-- the commit of a member of a line's group, if it made one
abbrev pub commit_in : (client line : ℕ) → Option GroupReply → List CommitLine
commit_in client line None = []
commit_in client line (Some (member.Committed n)) = record { number = n; client = client; line = line } ∷ []
commit_in client line (Some reply) = []

-- the commits that a line made, in order: one of an end, and those of the members of a group
abbrev pub commit_by : (client line : ℕ) → Reply → List CommitLine
commit_by client line (Committed n) = record { number = n; client = client; line = line } ∷ []
commit_by client line (Grouped answers) = flat_map (commit_in client line) answers
commit_by client line reply = []

-- the commits of a client, in the order of its lines
abbrev pub commits_of : Part → List CommitLine
commits_of p = flat_map (λ t. commit_by p.client t.0 t.1) p.told

-- the commits of all clients, in rising number
pub record AreCommits (parts : List Part) (commits : List CommitLine) : Type 0 where
  pub all : IsPermutation (flat_map commits_of parts) commits
  pub rising : IsNonDecreasingBy (λ c. c.number) commits

-- the lines that a client was told, and the line of a commit
abbrev pub told_lines : Part → List (List ℕ)
told_lines p = map (λ t. reply_line p.client t.1) p.told

abbrev pub commit_line : CommitLine → List ℕ
commit_line c = codes "commit " ++ decimal c.number ++ codes " by " ++ decimal c.client ++ codes " line " ++ decimal c.line ++ 10 ∷ []

-- what the clients were told, one after another, and then the commits
abbrev pub output_lines : List Part → List CommitLine → List (List ℕ)
output_lines parts commits = flat_map told_lines parts ++ map commit_line commits

-- the whole text
pub record IsOutput (parts : List Part) (text : List ℕ) : Type 0 where
  pub commits : List CommitLine
  pub are : AreCommits parts commits
  pub is : text ≡ concat (output_lines parts commits)

-- first ones of these lines came to the text
pub record AreFirst (lines : List (List ℕ)) (old new : List ℕ) : Type 0 where
  pub number : ℕ
  pub within : number ≤ length lines
  pub is : new ≡ old ++ concat (take number lines)

-- first lines of the whole text: those of commits among them are in rising number
pub record IsFront (parts : List Part) (text : List ℕ) : Type 0 where
  pub commits : List CommitLine
  pub number : ℕ
  pub are : length (flat_map told_lines parts) < number → AreCommits parts commits
  pub is : text ≡ concat (take number (output_lines parts commits))
