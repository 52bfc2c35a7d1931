-- What clap's contracts say of the program's command.
use Rattle.command_line.{proofs.Words.{◌≡◌, ◌≢◌, inl, inr, ◌∙◌, true, List, [], ◌∷◌, Option, None, ap, refl, sym, subst, App, HasKind, HasMatchesOf, IsAmong, Kinds, Row, Text, fault_of, is_simple, is_simple_and_free, kind_of, subcommand_of, subcommand_rows_of, Error, ErrorKind, OutOfMemory, ArgMatches, clap_on_literals, is_valid, isotope_app, geometry_of, long_number_of, number_of, request_of, rows_found, task_of, unless_refused, words_of}, specs.declared.task.Task.{Task}}

pub is_free : is_simple_and_free isotope_app ≡ true
unfolding clap_on_literals
is_free = refl

pub is_simple_one : is_simple isotope_app ≡ true
unfolding clap_on_literals
is_simple_one = refl

-- where clap gives matches
pub taken : (a : App) (words : List Text) (m : ArgMatches) → a ≡ isotope_app → (is_simple_and_free a ≡ true → fault_of a words ≡ [])
    → HasMatchesOf a words m → rows_found words ≡ subcommand_rows_of m
unfolding rows_found
taken a words m is none has =
    let clean : fault_of isotope_app words ≡ [] = subst (λ (b : App). fault_of b words ≡ []) is (none (ap is_simple_and_free is ∙ is_free)) in
    let rows : subcommand_rows_of m ≡ subcommand_of isotope_app words = (has (ap is_simple is ∙ is_simple_one)).1 ∙ ap (λ (b : App). subcommand_of b words) is in
    ap (λ (k : Kinds). unless_refused k (subcommand_of isotope_app words)) clean ∙ sym rows

refused_rows : (k : ErrorKind) (kinds : Kinds) (rows : Option (Text × List Row)) → IsAmong k kinds → unless_refused kinds rows ≡ None
refused_rows k [] rows among = absurd among
refused_rows k (x ∷ kinds) rows among = refl

among_them : (e : Error) (kinds : Kinds) → HasKind kinds e → kind_of e ≢ OutOfMemory → IsAmong (kind_of e) kinds
among_them e kinds (inl memory) other = absurd (other memory)
among_them e kinds (inr among) other = among

-- where it refuses the words
pub refused : (a : App) (words : List Text) (e : Error) → a ≡ isotope_app → (is_simple_and_free a ≡ true → HasKind (fault_of a words) e)
    → kind_of e ≢ OutOfMemory → rows_found words ≡ None
unfolding rows_found
refused a words e is has other =
    let kinds : HasKind (fault_of isotope_app words) e = subst (λ (b : App). HasKind (fault_of b words) e) is (has (ap is_simple_and_free is ∙ is_free)) in
    refused_rows (kind_of e) (fault_of isotope_app words) (subcommand_of isotope_app words) (among_them e (fault_of isotope_app words) kinds other)

-- all that the grammar of given words computes by
unfoldable pub grammar : List Text → Option (Text × Task)
unfolding clap_on_literals words_of request_of rows_found task_of geometry_of number_of is_valid long_number_of
grammar = request_of
