use Rattle.queued_disk.{proofs.Fronts.{front_image, left_image, since_image}, specs.Queued.{calls_of, given, handed_on, tape_of}}
use Rattle.queued_disk.proofs.queued.QueuedDisk.each_front_leaves_an_image.Goals as goal

pub returns : goal.returns
returns c =
    let d = c.args.self.now in
    record {
      calls = λ t k image from to left. since_image (calls_of d) (given d) image t k d.writes_fit from to left;
      tape = λ n image le left. front_image (handed_on d) (tape_of d) (given d) image n d.writes_fit le left;
      all = λ image left. left_image (calls_of d) (given d) image d.writes_fit left;
    }
