use Rattle.cy_dag.proofs.error.DagError.push_to.Goals as goal

pub returns-in-Shape : goal.returns-in-Shape
returns-in-Shape c = rw c.in-Shape.is c.push_named.ensures

pub returns-in-TooMany : goal.returns-in-TooMany
returns-in-TooMany c = rw c.in-TooMany.is (rw c.from.ensures at c.push_limit.ensures)

pub returns-in-Missing : goal.returns-in-Missing
returns-in-Missing c = rw c.in-Missing.is c.push_of.ensures

pub returns-in-NameTwice : goal.returns-in-NameTwice
returns-in-NameTwice c = rw c.in-NameTwice.is c.push_two.ensures

pub returns-in-UnknownClass : goal.returns-in-UnknownClass
returns-in-UnknownClass c = rw c.in-UnknownClass.is c.push_one.ensures

pub returns-in-NoReader : goal.returns-in-NoReader
returns-in-NoReader c = rw c.in-NoReader.is c.push_one-in-NoReader.ensures

pub returns-in-TooManyReaders : goal.returns-in-TooManyReaders
returns-in-TooManyReaders c = rw c.in-TooManyReaders.is c.push_two-in-TooManyReaders.ensures

pub returns-in-ReaderTwice : goal.returns-in-ReaderTwice
returns-in-ReaderTwice c = rw c.in-ReaderTwice.is c.push_of-in-ReaderTwice.ensures

pub returns-in-TooFewReaders : goal.returns-in-TooFewReaders
returns-in-TooFewReaders c = rw c.in-TooFewReaders.is c.push_two-in-TooFewReaders.ensures

pub returns-in-NotOverflow : goal.returns-in-NotOverflow
returns-in-NotOverflow c = rw c.in-NotOverflow.is c.push_one-in-NotOverflow.ensures

pub returns-in-NotWhole : goal.returns-in-NotWhole
returns-in-NotWhole c = rw c.in-NotWhole.is c.push_of-in-NotWhole.ensures

pub returns-in-TooManyValues : goal.returns-in-TooManyValues
returns-in-TooManyValues c = rw c.in-TooManyValues.is (rw c.from-in-TooManyValues.ensures at c.push_limit-in-TooManyValues.ensures)

pub returns-in-PathLength : goal.returns-in-PathLength
returns-in-PathLength c = rw c.in-PathLength.is c.push_numbers.ensures

pub returns-in-PathNumber : goal.returns-in-PathNumber
returns-in-PathNumber c = rw c.in-PathNumber.is c.push_two-in-PathNumber.ensures

pub returns-in-NotKind : goal.returns-in-NotKind
returns-in-NotKind c = rw c.in-NotKind.is c.push_two-in-NotKind.ensures

pub returns-in-NotScale : goal.returns-in-NotScale
returns-in-NotScale c = rw c.in-NotScale.is c.push_two-in-NotScale.ensures

pub returns-in-ZeroInterval : goal.returns-in-ZeroInterval
returns-in-ZeroInterval c = rw c.in-ZeroInterval.is c.push_one-in-ZeroInterval.ensures

pub returns-in-TwoWriters : goal.returns-in-TwoWriters
returns-in-TwoWriters c = rw c.in-TwoWriters.is c.push_two-in-TwoWriters.ensures

pub returns-in-TimerWritten : goal.returns-in-TimerWritten
returns-in-TimerWritten c = rw c.in-TimerWritten.is c.push_two-in-TimerWritten.ensures

pub returns-in-TriggerCycle : goal.returns-in-TriggerCycle
returns-in-TriggerCycle c = rw c.in-TriggerCycle.is (rw c.as_slice.ensures at c.push_numbers-in-TriggerCycle.ensures)

pub returns-in-ValueDiffers : goal.returns-in-ValueDiffers
returns-in-ValueDiffers c = rw c.in-ValueDiffers.is c.push_two-in-ValueDiffers.ensures

pub returns-in-ValueWritten : goal.returns-in-ValueWritten
returns-in-ValueWritten c = rw c.in-ValueWritten.is c.push_two-in-ValueWritten.ensures

pub returns-in-TooManyChannels : goal.returns-in-TooManyChannels
returns-in-TooManyChannels c = rw c.in-TooManyChannels.is (rw c.from-in-TooManyChannels.ensures at c.push_limit-in-TooManyChannels.ensures)
