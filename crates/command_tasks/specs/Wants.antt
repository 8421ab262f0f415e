-- What a wanted file is, by the bytes of its name.
use Rattle.command_tasks.specs.declared.loads.Want.{Want as WantedFile}
use Rattle.command_tasks.specs.Loading.{Want}

abbrev pub want_of : WantedFile → Want
want_of want = record { name = want.name.now; kind = want.kind }
