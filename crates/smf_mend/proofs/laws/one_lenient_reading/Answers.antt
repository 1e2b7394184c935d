use Rattle.smf_mend.proofs.OneReading.{reads-files, reads-faults, file-or-fault, one-file, one-fault, not-both}
use Rattle.smf_mend.proofs.laws.one_lenient_reading.Goals as goal

pub returns : goal.returns
returns c = record { some = file-or-fault; file = one-file; fault = one-fault; apart = not-both; reads_files = reads-files; reads_faults = reads-faults }
