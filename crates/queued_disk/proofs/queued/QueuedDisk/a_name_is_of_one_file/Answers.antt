use Rattle.queued_disk.{proofs.Files.files_same, specs.Queued.{given, handed_on}}

pub returns : Rattle.queued_disk.proofs.queued.QueuedDisk.a_name_is_of_one_file.Goals.returns
returns c is = files_same (given c.args.self.now) (given c.args.other.now) (handed_on c.args.self.now) (handed_on c.args.other.now) is
