use Rattle.device_desk.proofs.Found.{found, missing}
use Rattle.device_desk.proofs.sizes.sizes_are_of_files.Goals as goal

pub returns-clause-found : goal.returns-clause-found
returns-clause-found c W number t name file is here serial room regions key some = found W number t name is here serial room regions key file some

pub returns-clause-missing : goal.returns-clause-missing
returns-clause-missing c W number t name is here serial room regions key none = missing W number t name is here serial room regions key none
