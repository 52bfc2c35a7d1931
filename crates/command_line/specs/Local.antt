-- Arguments that do not hold in subcommands too, and a command without others.
use Rattle.std.specs.Prelude.{◌≡◌, false}
use Rattle.clap.specs.{Words.{App, Rule, app_of, rule_of}, declared.builder.arg.Arg.Arg, declared.builder.command.Command.{Command, TheViews.{out-Command as fields_of}}}

-- The command is this one, and no argument of it holds in its subcommands too.
pub record IsLocal (app : App) (c : Command) : Type 0 where
  pub app_is : app_of c ≡ app
  pub local : (fields_of c).has_globals ≡ false

-- The argument has this rule, and does not hold in subcommands.
pub record IsLocalArg (wanted : Rule) (a : Arg) : Type 0 where
  pub rule : rule_of a ≡ wanted
  pub local : a.global ≡ false
